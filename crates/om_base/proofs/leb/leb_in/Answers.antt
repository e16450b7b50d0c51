use Rattle.std.proofs.Common.{◌≡◌, ◌+◌, ◌*◌, ◌%◌, ◌<◌, Ok, get_or, take, refl, sym, ap, ◌∙◌, arith, below_more}
use Rattle.std.specs.Result.{result_map_both}
use Rattle.std.proofs.lemmas.Bool.{lt-ltb, le-ltb}
use Rattle.om_base.specs.Leb.{sum_of}
use Rattle.om_base.specs.LebParts.{parts_of}
use Rattle.om_base.proofs.LebLemmas.{adds_little, leb_is, leb_long, leb_short, parts_are, raised, sum_more, weight_bound, weight_fits}
use Rattle.om_base.proofs.leb.leb_in.Goals as goal

pub loop-read-init : goal.loop-read-init
unfolding sum_of
loop-read-init c = record { few = omega arith; before = λ k lt. absurd (omega arith); sum = refl; weight = refl; below = omega arith }

pub overflow_mul-sum : goal.overflow_mul-sum
overflow_mul-sum c =
    let light = weight_bound c.loop-read.read c.loop-read.invariant.few in
    omega (arith, adds_little (get_or c.args.bytes.now c.loop-read.read 0) c.loop-read.weight)

pub overflow_add-sum : goal.overflow_add-sum
overflow_add-sum c =
    let light = weight_bound c.loop-read.read c.loop-read.invariant.few in
    omega (arith, adds_little (get_or c.args.bytes.now c.loop-read.read 0) c.loop-read.weight)

pub overflow_mul-weight : goal.overflow_mul-weight
overflow_mul-weight c = let light = weight_bound c.loop-read.read c.loop-read.invariant.few in omega arith

pub returns-then-read-eq-MOST_LEB_BYTES-clause-parts : goal.returns-then-read-eq-MOST_LEB_BYTES-clause-parts
returns-then-read-eq-MOST_LEB_BYTES-clause-parts c =
    rw (leb_long c.args.bytes.now (λ k lt. c.loop-read.invariant.before k (omega arith)) (omega arith)) refl

pub returns-then-byte-lt128-clause-parts : goal.returns-then-byte-lt128-clause-parts
returns-then-byte-lt128-clause-parts c =
    let few : c.loop-read.read < 10 = omega arith in
    let front = leb_is c.args.bytes.now c.loop-read.read c.loop-read.invariant.before c.loop-read-test.true (lt-ltb _ _ c.if-byte-lt128.true) few in
    let parts = parts_are c.args.bytes.now c.loop-read.read c.loop-read.sum c.loop-read.weight c.loop-read-test.true c.loop-read.invariant.sum c.loop-read.invariant.weight in
    ap Ok (sym parts) ∙ ap (result_map_both parts_of (λ fault. fault)) (sym front)

pub returns-then-byte-lt128-clause-small : goal.returns-then-byte-lt128-clause-small
returns-then-byte-lt128-clause-small c =
    let light = weight_fits c.loop-read.read (omega arith) in
    let little = adds_little (get_or c.args.bytes.now c.loop-read.read 0) c.loop-read.weight in
    (omega arith, omega arith)

pub loop-read-preserved : goal.loop-read-preserved
loop-read-preserved c =
    let few : c.loop-read.read < 10 = omega arith in
    let inside = c.loop-read-test.true in
    let more = sum_more c.args.bytes.now c.loop-read.read inside in
    let heavy = c.loop-read.invariant.weight in
    let sum : c.loop-read.sum + get_or c.args.bytes.now c.loop-read.read 0 % 128 * c.loop-read.weight ≡ sum_of (take (c.loop-read.read + 1) c.args.bytes.now) =
    rw (heavy, c.loop-read.invariant.sum) (sym more) in
    let little = adds_little (get_or c.args.bytes.now c.loop-read.read 0) c.loop-read.weight in
    record {
      few = omega arith;
      before = below_more _ _ c.loop-read.invariant.before (le-ltb _ _ c.if-byte-lt128.false);
      sum = sum;
      weight = rw heavy (sym (raised c.loop-read.read));
      below = omega arith;
    }

pub returns-then-bytes-lt-MOST_LEB_BYTES-clause-parts : goal.returns-then-bytes-lt-MOST_LEB_BYTES-clause-parts
returns-then-bytes-lt-MOST_LEB_BYTES-clause-parts c = rw (leb_short c.args.bytes.now (λ k lt. c.loop-read.invariant.before k (omega arith)) (omega arith)) refl

pub returns-else-bytes-lt-MOST_LEB_BYTES-clause-parts : goal.returns-else-bytes-lt-MOST_LEB_BYTES-clause-parts
returns-else-bytes-lt-MOST_LEB_BYTES-clause-parts c = rw (leb_long c.args.bytes.now (λ k lt. c.loop-read.invariant.before k (omega arith)) (omega arith)) refl
