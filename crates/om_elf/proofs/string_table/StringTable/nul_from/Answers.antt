use Rattle.std.proofs.Common.{◌≡◌, ◌+◌, ◌*◌, ◌/◌, ◌≤◌, min, None, length, sym, ap, ◌∙◌, arith, take}
use Rattle.om_base.specs.Nul.{nul_from}
use Rattle.om_elf.proofs.BlockLemmas.{nul_in_front, nul_in_next}
use Rattle.om_elf.proofs.string_table.StringTable.nul_from.Goals as goal

pub returns-in-Some : goal.returns-in-Some
returns-in-Some c =
    let within : c.min-end.result ≤ length c.self.inside.bytes.now = omega arith in
    rw (← c.self.view_is) (sym (nul_in_front c.self.inside.bytes.now c.args.at c.min-end.result c.in-Some.nul within (sym c.first_nul.ensures ∙ c.in-Some.is)))

pub returns : goal.returns
returns c =
    let bytes = c.self.inside.bytes.now in
    let next = 1024 * (c.args.at / 1024 + 1) in
    let later : c.args.at ≤ next = omega arith in
    let end : c.min-end.result ≡ min next (length bytes) = c.min-end.ensures in
    let none : nul_from c.args.at (take (min next (length bytes)) bytes) ≡ None = ap (λ n. nul_from c.args.at (take n bytes)) (sym end) ∙ sym c.first_nul.ensures ∙ c.in_default.is in
    c.nul_from_block.ensures ∙ ap (nul_from next) (sym c.self.view_is) ∙ sym (nul_in_next bytes c.args.at next later none) ∙ ap (nul_from c.args.at) c.self.view_is
