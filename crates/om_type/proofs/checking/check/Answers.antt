use Rattle.om_type.proofs.ExistingLemmas.{if_all_exist}
use Rattle.om_type.proofs.SettlesLemmas.{gives_found, gives_ok, gives_refused, gives_unbuilt}
use Rattle.om_type.proofs.TypingLemmas.{query_settles}
use Rattle.om_type.proofs.checking.check.Goals as goal

pub returns-clause-typed : goal.returns-clause-typed
returns-clause-typed c = gives_ok (query_settles c.args.catalog.now c.args.query.now) c.check_parts.result c.check_parts.ensures

pub returns-clause-unbuilt : goal.returns-clause-unbuilt
returns-clause-unbuilt c = gives_unbuilt (query_settles c.args.catalog.now c.args.query.now) c.check_parts.result c.check_parts.ensures

pub returns-clause-finds : goal.returns-clause-finds
returns-clause-finds c = gives_found (query_settles c.args.catalog.now c.args.query.now) c.check_parts.result c.check_parts.ensures

pub returns-clause-refuses : goal.returns-clause-refuses
returns-clause-refuses c = gives_refused (query_settles c.args.catalog.now c.args.query.now) c.check_parts.result c.check_parts.ensures

pub returns-clause-exist : goal.returns-clause-exist
returns-clause-exist c =
    if_all_exist c.args.catalog.now c.args.query.now c.check_parts.result (gives_ok (query_settles c.args.catalog.now c.args.query.now) c.check_parts.result c.check_parts.ensures)
