use Rattle.std.proofs.Common.{rules}
use Rattle.om_value.proofs.Values.{value-Numeral, value-Text, value-Null, value-Column, value-Sum, value-Product, value-Sign, value-Signed, value-Bits, value-Memory}
use Rattle.om_value.proofs.evaluation.+value.Goals as goal

pub value_of-returns-in-Numeral : goal.value_of-returns-in-Numeral
value_of-returns-in-Numeral g t c = rw (c.in-Numeral.is, value-Numeral) (search rules)

pub value_of-returns-in-Text : goal.value_of-returns-in-Text
value_of-returns-in-Text g t c = rw (c.in-Text.is, value-Text) (search (rules, c.bytes.ensures, c.of.ensures))

pub value_of-returns-in-Null : goal.value_of-returns-in-Null
value_of-returns-in-Null g t c = rw (c.in-Null.is, value-Null) (search rules)

pub value_of-returns-in-Column : goal.value_of-returns-in-Column
value_of-returns-in-Column g t c = rw (c.in-Column.is, value-Column) c.cell_at.ensures

pub value_of-returns-in-Sum : goal.value_of-returns-in-Sum
value_of-returns-in-Sum g t c = rw (c.in-Sum.is, value-Sum, ← c.get.ensures, ← c.value_of.ensures, ← c.as_slice.ensures) c.sum_of.ensures

pub value_of-returns-in-Product : goal.value_of-returns-in-Product
value_of-returns-in-Product g t c = rw (c.in-Product.is, value-Product, ← c.get-in-Product.ensures, ← c.value_of-in-Product.ensures, ← c.as_slice-in-Product.ensures) c.product_of.ensures

pub value_of-returns-in-Sign : goal.value_of-returns-in-Sign
value_of-returns-in-Sign g t c = rw (c.in-Sign.is, value-Sign, ← c.get-in-Sign.ensures, ← c.value_of-in-Sign.ensures) c.with_sign.ensures

pub value_of-returns-in-Signed : goal.value_of-returns-in-Signed
value_of-returns-in-Signed g t c = rw (c.in-Signed.is, value-Signed, ← c.get-in-Signed.ensures, ← c.value_of-in-Signed.ensures) c.signed.ensures

pub value_of-returns-in-Bits : goal.value_of-returns-in-Bits
value_of-returns-in-Bits g t c = rw (c.in-Bits.is, value-Bits, ← c.get-in-Bits.ensures, ← c.value_of-in-Bits.ensures) c.bits.ensures

pub value_of-returns-in-Memory : goal.value_of-returns-in-Memory
value_of-returns-in-Memory g t c = rw (c.in-Memory.is, value-Memory, ← c.get-in-Memory.ensures, ← c.value_of-in-Memory.ensures) c.memory_at.ensures
