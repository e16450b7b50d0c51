use Rattle.std.proofs.Common.{rules, sym, ◌∙◌}
use Rattle.om_value.proofs.Values.{by-Numeral, by-Text, by-Null, by-Column, by-Sum, by-Product, by-Sign, by-Signed, by-Bits, by-Memory}
use Rattle.om_value.proofs.evaluation.+value_tree.Goals as goal

pub value_of_tree-returns-in-Numeral : goal.value_of_tree-returns-in-Numeral
value_of_tree-returns-in-Numeral g t c = rw (c.in-Numeral.is, by-Numeral) (search rules)

pub value_of_tree-returns-in-Text : goal.value_of_tree-returns-in-Text
value_of_tree-returns-in-Text g t c = rw (c.in-Text.is, by-Text) (search (rules, c.bytes.ensures, c.of.ensures))

pub value_of_tree-returns-in-Null : goal.value_of_tree-returns-in-Null
value_of_tree-returns-in-Null g t c = rw (c.in-Null.is, by-Null) (search rules)

pub value_of_tree-returns-in-Column : goal.value_of_tree-returns-in-Column
value_of_tree-returns-in-Column g t c = rw (c.in-Column.is, by-Column) c.cell.ensures

pub value_of_tree-returns-in-Sum : goal.value_of_tree-returns-in-Sum
value_of_tree-returns-in-Sum g t c = rw (c.in-Sum.is, by-Sum, ← c.get.ensures, ← c.value_of_tree.ensures, ← c.as_slice.ensures) c.sum_of_tree.ensures

pub value_of_tree-returns-in-Product : goal.value_of_tree-returns-in-Product
value_of_tree-returns-in-Product g t c = rw (c.in-Product.is, by-Product, ← c.get-in-Product.ensures, ← c.value_of_tree-in-Product.ensures, ← c.as_slice-in-Product.ensures) c.product_of_tree.ensures

pub value_of_tree-returns-in-Sign : goal.value_of_tree-returns-in-Sign
value_of_tree-returns-in-Sign g t c = rw (c.in-Sign.is, by-Sign, ← c.get-in-Sign.ensures, ← c.value_of_tree-in-Sign.ensures) c.with_sign.ensures

pub value_of_tree-returns-in-Signed : goal.value_of_tree-returns-in-Signed
value_of_tree-returns-in-Signed g t c = rw (c.in-Signed.is, by-Signed, ← c.get-in-Signed.ensures, ← c.value_of_tree-in-Signed.ensures) c.signed.ensures

pub value_of_tree-returns-in-Bits : goal.value_of_tree-returns-in-Bits
value_of_tree-returns-in-Bits g t c = rw (c.in-Bits.is, by-Bits, ← c.get-in-Bits.ensures, ← c.value_of_tree-in-Bits.ensures) c.bits.ensures

pub value_of_tree-returns-in-Memory : goal.value_of_tree-returns-in-Memory
value_of_tree-returns-in-Memory g t c = c.memory.ensures ∙ rw c.in-Memory.is (sym (by-Memory _ _ _ _ _))
