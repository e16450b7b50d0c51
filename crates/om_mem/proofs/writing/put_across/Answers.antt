use Rattle.std.proofs.Common.{◌≡◌, ◌+◌, ◌-◌, ◌<◌, ◌≤◌, ◌∙◌, length, take, drop, sum_by, arith, ◌^◌}
use Rattle.std.proofs.lemmas.Bool.Decides.{nat_tests}
use Rattle.std.proofs.lemmas.List.{take_rest}
use Rattle.om_mem.proofs.AcrossLemmas.{outside-mapped, outside-rest, stored-piece}
use Rattle.om_mem.proofs.WriteLemmas.{same_then}
use Rattle.om_mem.proofs.writing.put_across.Goals as goal

pub returns-in_default-clause-stored : goal.returns-in_default-clause-stored
returns-in_default-clause-stored c =
    let some : 0 < length c.loop-rest.rest.now = grind (arith, nat_tests) in
    absurd (outside-mapped _ c.loop-rest.at (length c.loop-rest.rest.now) some c.loop-rest.invariant.inside c.in_default.ensures.spot)

pub loop-rest-preserved : goal.loop-rest-preserved
loop-rest-preserved c =
    let was = c.loop-rest.invariant in
    let rest = c.loop-rest.rest.now in
    let at = c.loop-rest.at in
    let n = c.count_from-count.result in
    let spot = c.in-Some.spot in
    let low = c.in-Some.ensures.low in
    let high = c.in-Some.ensures.high in
    let ends = c.in-Some.ensures.spot.ends in
    let few = c.count_from-count.ensures in
    let small : at < 2 ^ 32 = omega arith in
    let fits : n ≤ length rest = omega arith in
    let whole : length c.loop-rest.bytes ≡ sum_by (λ r. r.size) c.args.regions.now = was.whole ∙ c.requires.whole in
    let within : at + n ≤ spot.low + spot.size = omega arith in
    let cut : take (length rest - n) (drop n rest) ≡ drop n rest = take_rest rest n in
    let written = stored-piece c.args.regions.now spot c.in-Some.ensures.spot rest c.loop-rest.bytes at n whole low small fits within in
    record {
      rest = rw (c.put_from.ensures.bytes, cut) (written ∙ was.rest);
      inside = rw cut (outside-rest c.args.regions.now at n rest small fits was.inside);
      whole = c.put_from.auto.bytes ∙ was.whole;
      flags = c.put_from.ensures.flags ∙ was.flags;
      same = same_then _ _ _ _ _ _ was.same c.put_from.ensures.same;
    }
