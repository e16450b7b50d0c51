-- What the reader of LEB128 numbers keeps of the bytes of one.
use Rattle.std.specs.Prelude.{ℕ, ◌^◌, nat_lt, ◌&&◌, List, length, ℤ, pos, neg_ℤ, ◌-ℤ◌, int_le, int_lt, Result, Ok, Err, if◌then◌else◌}
use Rattle.om_base.specs.Leb.{last_of, sum_of}
use Rattle.om_base.specs.declared.leb.Leb.{Leb}
use Rattle.om_base.specs.declared.numbers.Num.{Num}
use Rattle.om_base.specs.declared.numbers.Num.TheVariants.{LebLong}

-- the sum, the weight of a further bit, the last byte and the count of some bytes
unfoldable pub parts_of : List ℕ → Leb
parts_of text = record {
  sum = sum_of text;
  weight = 128 ^ length text;
  last = last_of text;
  size = length text;
}

-- the number and the count of bytes, if it has 64 bits
abbrev pub unsigned_by : Leb → Result (ℕ × ℕ) Num
unsigned_by leb = if nat_lt leb.sum (2 ^ 64) then Ok (leb.sum, leb.size) else Err LebLong

-- the number in two's complement
abbrev pub signed_value : Leb → ℤ
signed_value leb = if nat_lt leb.last 64 then pos leb.sum else pos leb.sum -ℤ pos leb.weight

-- that number and the count of bytes, if it has 64 bits
abbrev pub signed_by : Leb → Result (ℤ × ℕ) Num
signed_by leb =
    if int_le (neg_ℤ (pos (2 ^ 63))) (signed_value leb) && int_lt (signed_value leb) (pos (2 ^ 63))
    then Ok (signed_value leb, leb.size) else Err LebLong
