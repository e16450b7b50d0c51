use Rattle.std.proofs.Common.{◌≡◌, ◌-◌, ◌+◌, ◌≤◌, suc, length}
use Rattle.std.specs.Prelude.{if◌then◌else◌}
use Rattle.om_typing.specs.Queries.{fitting}
use Rattle.om_typing.proofs.naming.fits_one.Given as goal

abbrev pub invariant-loop-rest : goal.invariant-loop-rest
invariant-loop-rest l = (length l.rest ≤ length l.headings) × (fitting l.key 1 l.headings ≡ (if l.found then suc (fitting l.key (length l.headings - length l.rest + 1) l.rest) else fitting l.key (length l.headings - length l.rest + 1) l.rest))

abbrev pub decreases-loop-rest : goal.decreases-loop-rest
decreases-loop-rest l = length l.rest
