use Rattle.std.proofs.Common.{◌≡◌, ℕ, ◌^◌, ◌<◌, ◌≤◌, false, get_or, take}
use Rattle.om_base.specs.Leb.{is_last, sum_of}
use Rattle.om_base.proofs.leb.leb_in.Given as goal

abbrev pub invariant-loop-read : goal.invariant-loop-read
invariant-loop-read l = record {
  few : l.read ≤ 10;
  before : (k : ℕ) → k < l.read → is_last (get_or l.bytes k 0) ≡ false;
  sum : l.sum ≡ sum_of (take l.read l.bytes);
  weight : l.weight ≡ 128 ^ l.read;
  below : l.sum < l.weight;
}
