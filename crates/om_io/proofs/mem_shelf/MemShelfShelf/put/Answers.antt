use Rattle.std.proofs.Common.{◌∙◌, ◌∷◌, ◌++◌, [], ap}
use Rattle.om_io.specs.MemShelf.{ShelfState}
use Rattle.om_io.proofs.CountLemmas.{times_rises, times_stays}
use Rattle.om_io.proofs.mem_shelf.MemShelfShelf.put.Goals as goal

pub returns-then-begin-clause-cause : goal.returns-then-begin-clause-cause
returns-then-begin-clause-cause c =
    times_rises _ _ _ _ (ap (λ (s : ShelfState). s.failed_puts) c.in_ok-note_put.ensures.ok ∙ ap (λ (s : ShelfState). s.failed_puts ++ c.args.name.now ∷ []) c.begin.ensures.state)

pub returns-then-begin-clause-quiet : goal.returns-then-begin-clause-quiet
returns-then-begin-clause-quiet c =
    times_stays _ _ _ (ap (λ (s : ShelfState). s.failed_puts) c.in_ok-note_put.ensures.ok ∙ ap (λ (s : ShelfState). s.failed_puts ++ c.args.name.now ∷ []) c.begin.ensures.state)
