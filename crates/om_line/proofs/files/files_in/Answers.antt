use Rattle.std.proofs.Common.{ℕ, List, Option, Ok, ap, ◌∙◌}
use Rattle.std.specs.Prelude.{Result}
use Rattle.om_line.specs.Files.{files_in}
use Rattle.om_line.specs.declared.fields.Broken.{Broken}
use Rattle.om_line.proofs.ProgramLemmas.{file_step, files_cut, files_end}
use Rattle.om_line.proofs.ReaderLemmas.{file_behind}
use Rattle.om_line.proofs.files.files_in.Goals as goal

-- what is read, by its file
read : Option (List ℕ) → List ℕ → Result (Option (List ℕ) × List ℕ) Broken
read file rest = Ok (file, rest)

pub returns-in_default : goal.returns-in_default
returns-in_default c = files_cut (files_in c.args.bytes.now) c.loop-file.files c.loop-file.rest.now c.in_default.field-0 c.loop-file.invariant c.in_default.ensures

pub returns-in_default-file : goal.returns-in_default-file
unfolding read
returns-in_default-file c =
    files_end (files_in c.args.bytes.now) c.loop-file.files c.loop-file.rest.now c.in-Ok.behind.now c.loop-file.invariant (c.in-Ok.ensures ∙ ap (λ f. read f c.in-Ok.behind.now) c.in_default-file.is)

pub loop-file-smaller : goal.loop-file-smaller
loop-file-smaller c = file_behind c.loop-file.rest.now (c.in-Ok.file, c.in-Ok.behind.now) c.in-Ok.ensures

pub loop-file-preserved : goal.loop-file-preserved
unfolding read
loop-file-preserved c =
    file_step (files_in c.args.bytes.now) c.loop-file.files c.push.new.self c.loop-file.rest.now c.in-Some.name c.in-Ok.behind.now c.loop-file.invariant
    (c.in-Ok.ensures ∙ ap (λ f. read f c.in-Ok.behind.now) c.in-Some.is) c.in_ok-push.ensures.ok
