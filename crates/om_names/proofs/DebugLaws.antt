-- Debugging information is read in one way.
use Rattle.std.proofs.Common.{◌≡◌, ℕ, ◌<◌, ◌^◌, Bool, true, false, cond, List, [], ◌∷◌, ◌++◌, length, Some, None, Result, Ok, Err, codes, refl, sym, ap, subst, ◌∙◌, ◌⊎◌, inl, inr}
use Rattle.std.specs.Prelude.{All, IfErr, IfOk, find}
use Rattle.std.specs.Option.{option_and_then, option_or}
use Rattle.std.proofs.lemmas.List.Elements.{All-head, All-tail}
use Rattle.std.proofs.lemmas.List.Folds.{find-append}
use Rattle.om_cfi.specs.Frames.{frames_fault}
use Rattle.om_cfi.specs.declared.fault.CfiFault.{CfiFault}
use Rattle.om_cfi.specs.declared.fault.CfiFault.TheVariants as f
use Rattle.om_die.specs.Refusals.{IsRefusal}
use Rattle.om_die.specs.Units.{AreUnits, dies_of_units}
use Rattle.om_die.specs.declared.fault.DieFault.{DieFault}
use Rattle.om_die.specs.declared.fault.DieFault.TheVariants as d
use Rattle.om_die.specs.declared.unit.Units.{Units}
use Rattle.om_die.proofs.TotalLaws.{units_or_refusal}
use Rattle.om_die.proofs.UnitOnce.{not_refused, one_refusal, one_units}
use Rattle.om_elf.specs.declared.elf.Elf.{Elf}
use Rattle.om_line.specs.Tables.{tables_fault}
use Rattle.om_line.specs.declared.fault.LineFault.{LineFault}
use Rattle.om_line.specs.declared.fault.LineFault.TheVariants as l
use Rattle.om_line.specs.declared.lines.Lines.{Lines}
use Rattle.om_names.specs.Functions.{func_at, holds, name_of}
use Rattle.om_names.specs.Information.{Entry, Information, entries_of, info_of, section, unit_sections}
use Rattle.om_names.specs.Known.{Known, Knows}
use Rattle.om_names.specs.Ranges.{first_range_fault}
use Rattle.om_names.specs.LineTables.{line_fault, line_section, line_tables, line_offsets}
use Rattle.om_names.specs.Stage.{Stage, followed_by, gives_or_refuses, giving}
use Rattle.om_names.specs.Stages.{IsLawful, IsRefused, all_stages, frame_section, frames_stage, lines_stage, ranges_stage, types_stage, units_stage}
use Rattle.om_names.specs.Types.{type_fault}
use Rattle.om_names.specs.declared.fault.NamesFault.{NamesFault}
use Rattle.om_names.specs.declared.fault.NamesFault.TheVariants as n
use Rattle.om_names.proofs.KnownLemmas.{few_dies, few_units}
use Rattle.om_names.proofs.StageLaws.{HasOneOutcome, HasOutcome, one_followed, one_giving, one_outcome, one_unless, some_followed, some_giving, some_outcome, some_unless}

-- ---- the first function

find_none : {X : Type 0} (test : X → Bool) (xs : List X) → All (λ x. test x ≡ false) xs → find test xs ≡ None
find_none test [] none = refl
find_none test (x ∷ xs) none = ap (λ b. cond b (Some x) (find test xs)) (All-head (λ y. test y ≡ false) x xs none) ∙ find_none test xs (All-tail (λ y. test y ≡ false) x xs none)

pub no_function : (info : Information) (pc : ℕ) → All (λ entry. holds info pc entry ≡ false) (entries_of info.units) → func_at info pc ≡ None
unfolding func_at
no_function info pc none = ap (option_and_then (λ entry. name_of info entry.die)) (find_none (holds info pc) (entries_of info.units) none)

pub the_first : (info : Information) (pc : ℕ) (before after : List Entry) (entry : Entry) → entries_of info.units ≡ before ++ entry ∷ after → All (λ e. holds info pc e ≡ false) before → holds info pc entry ≡ true
    → func_at info pc ≡ name_of info entry.die
unfolding func_at
the_first info pc before after entry parts none here =
    let found : find (holds info pc) (entries_of info.units) ≡ Some entry =
    ap (find (holds info pc)) parts ∙ find-append (holds info pc) before (entry ∷ after)
    ∙ ap (λ o. option_or o (find (holds info pc) (entry ∷ after))) (find_none (holds info pc) before none) ∙ ap (λ b. cond b (Some entry) (find (holds info pc) after)) here in
    ap (option_and_then (λ e. name_of info e.die)) found

-- ---- one reading

module _ (elf : Elf) where
  one_of_units : HasOneOutcome (units_stage elf)
  one_of_units = one_outcome (AreUnits (unit_sections elf)) (IsRefusal (unit_sections elf)) n.Info (one_units (unit_sections elf)) (one_refusal (unit_sections elf)) (not_refused (unit_sections elf))

  one_of_ranges : (units : Units) → HasOneOutcome (ranges_stage elf units)
  one_of_ranges units = one_unless (first_range_fault (section elf (codes ".debug_ranges")) units) (section elf (codes ".debug_ranges")) n.Ranges

  one_of_lines : (units : Units) → HasOneOutcome (lines_stage elf units)
  one_of_lines units = one_unless (line_fault elf units) (line_tables elf units) n.Lines

  one_of_frames : HasOneOutcome (frames_stage elf)
  one_of_frames = one_unless (frames_fault (frame_section elf)) (frame_section elf) n.Frame

  one_of_types : (units : Units) → HasOneOutcome (types_stage units)
  one_of_types units = one_unless (type_fault units) tt n.TypeLoop

  -- the stages behind the units, behind the range lists, behind the line tables, and behind the frames
  abbrev behind_frames : (units : Units) → List ℕ → List Lines → List ℕ → Stage Information
  behind_frames units ranges lines frames = followed_by (types_stage units) (λ typed. giving (info_of units ranges lines frames))

  abbrev behind_lines : (units : Units) → List ℕ → List Lines → Stage Information
  behind_lines units ranges lines = followed_by (frames_stage elf) (behind_frames units ranges lines)

  abbrev behind_ranges : (units : Units) → List ℕ → Stage Information
  behind_ranges units ranges = followed_by (lines_stage elf units) (behind_lines units ranges)

  abbrev behind_units : (units : Units) → Stage Information
  behind_units units = followed_by (ranges_stage elf units) (behind_ranges units)

  pub one_reading : HasOneOutcome (all_stages elf)
  unfolding all_stages
  one_reading =
      one_followed (units_stage elf) behind_units one_of_units
      (λ units. one_followed (ranges_stage elf units) (behind_ranges units) (one_of_ranges units)
      (λ ranges. one_followed (lines_stage elf units) (behind_lines units ranges) (one_of_lines units)
      (λ lines. one_followed (frames_stage elf) (behind_frames units ranges lines) one_of_frames
      (λ frames. one_followed (types_stage units) (λ typed. giving (info_of units ranges lines frames)) (one_of_types units) (λ typed. one_giving (info_of units ranges lines frames))))))

  pub one_information : (a b : Information) → IsLawful elf a → IsLawful elf b → a ≡ b
  one_information a b is are = let same : Ok a ≡ Ok b = one_reading (Ok a) (Ok b) is are in cc

  pub one_fault : (f g : NamesFault) → IsRefused elf f → IsRefused elf g → f ≡ g
  one_fault f g is are = let same : Err f ≡ Err g = one_reading (Err f) (Err g) is are in cc

  pub lawful_or_refused : (info : Information) (fault : NamesFault) → IsLawful elf info → IsRefused elf fault → ⊥
  lawful_or_refused info fault is refused = let same : Ok info ≡ Err fault = one_reading (Ok info) (Err fault) is refused in cc

  -- ---- some reading

  some_of_units : HasOutcome (units_stage elf)
  some_of_units = some_outcome (AreUnits (unit_sections elf)) (IsRefusal (unit_sections elf)) n.Info (units_or_refusal (unit_sections elf))

  some_of_ranges : (units : Units) → HasOutcome (ranges_stage elf units)
  some_of_ranges units = some_unless (first_range_fault (section elf (codes ".debug_ranges")) units) (section elf (codes ".debug_ranges")) n.Ranges

  some_of_lines : (units : Units) → HasOutcome (lines_stage elf units)
  some_of_lines units = some_unless (line_fault elf units) (line_tables elf units) n.Lines

  some_of_frames : HasOutcome (frames_stage elf)
  some_of_frames = some_unless (frames_fault (frame_section elf)) (frame_section elf) n.Frame

  some_of_types : (units : Units) → HasOutcome (types_stage units)
  some_of_types units = some_unless (type_fault units) tt n.TypeLoop

  all_outcome : HasOutcome (all_stages elf)
  unfolding all_stages
  all_outcome =
      some_followed (units_stage elf) behind_units some_of_units
      (λ units. some_followed (ranges_stage elf units) (behind_ranges units) (some_of_ranges units)
      (λ ranges. some_followed (lines_stage elf units) (behind_lines units ranges) (some_of_lines units)
      (λ lines. some_followed (frames_stage elf) (behind_frames units ranges lines) some_of_frames
      (λ frames. some_followed (types_stage units) (λ typed. giving (info_of units ranges lines frames)) (some_of_types units) (λ typed. some_giving (info_of units ranges lines frames))))))

  either : (x : Result Information NamesFault) → all_stages elf x → ((info : Information) × IsLawful elf info) ⊎ ((fault : NamesFault) × IsRefused elf fault)
  either (Ok info) is = inl (info, is)
  either (Err fault) is = inr (fault, is)

  pub some_reading : ((info : Information) × IsLawful elf info) ⊎ ((fault : NamesFault) × IsRefused elf fault)
  some_reading = either all_outcome.0 all_outcome.1

  -- ---- what is read

  -- an answer that is right is the only one, but for want of memory
  pub reads_all : (result : Result Known NamesFault) → IfOk result (λ known. (info : Information) × IsLawful elf info × Knows info known) → IfErr result (λ fault. (fault ≡ n.NoMemory) ⊎ IsRefused elf fault)
      → (info : Information) → IsLawful elf info → IfOk result (Knows info) × IfErr result (λ fault. fault ≡ n.NoMemory)
  reads_all (Ok known) reads refuses info lawful = (subst (λ i. Knows i known) (one_information reads.0 info reads.1 lawful) reads.2, tt)
  reads_all (Err fault) reads (inl none) info lawful = (tt, none)
  reads_all (Err fault) reads (inr refused) info lawful = absurd (lawful_or_refused info fault lawful refused)

  pub refuses_all : (result : Result Known NamesFault) → IfOk result (λ known. (info : Information) × IsLawful elf info × Knows info known) → IfErr result (λ fault. (fault ≡ n.NoMemory) ⊎ IsRefused elf fault)
      → (fault : NamesFault) → IsRefused elf fault → (result ≡ Err fault) ⊎ (result ≡ Err n.NoMemory)
  refuses_all (Ok known) reads refuses fault refused = absurd (lawful_or_refused reads.0 fault reads.1 refused)
  refuses_all (Err told) reads (inl none) fault refused = inr (ap (λ f. Err f) none)
  refuses_all (Err told) reads (inr is) fault refused = inl (ap (λ f. Err f) (one_fault told fault is refused))

-- ---- stage by stage

pub lawful : (elf : Elf) (units : Units) (ranges : List ℕ) (lines : List Lines) (frames : List ℕ) → units_stage elf (Ok units) → ranges_stage elf units (Ok ranges) → lines_stage elf units (Ok lines) → frames_stage elf (Ok frames)
    → type_fault units ≡ None → IsLawful elf (info_of units ranges lines frames)
unfolding all_stages followed_by gives_or_refuses
lawful elf units ranges lines frames are listed named ruled typed = (units, are, (ranges, listed, (lines, named, (frames, ruled, (tt, (refl, typed), refl)))))

refused_by_units : (elf : Elf) (fault : NamesFault) → units_stage elf (Err fault) → IsRefused elf fault
unfolding all_stages followed_by
refused_by_units elf fault refused = inl refused

refused_by_ranges : (elf : Elf) (units : Units) (fault : NamesFault) → units_stage elf (Ok units) → ranges_stage elf units (Err fault) → IsRefused elf fault
unfolding all_stages followed_by
refused_by_ranges elf units fault are refused = inr (units, are, inl refused)

refused_by_lines : (elf : Elf) (units : Units) (ranges : List ℕ) (fault : NamesFault) → units_stage elf (Ok units) → ranges_stage elf units (Ok ranges) → lines_stage elf units (Err fault) → IsRefused elf fault
unfolding all_stages followed_by
refused_by_lines elf units ranges fault are listed refused = inr (units, are, inr (ranges, listed, inl refused))

refused_by_frames : (elf : Elf) (units : Units) (ranges : List ℕ) (lines : List Lines) (fault : NamesFault) → units_stage elf (Ok units) → ranges_stage elf units (Ok ranges) → lines_stage elf units (Ok lines)
    → frames_stage elf (Err fault) → IsRefused elf fault
unfolding all_stages followed_by
refused_by_frames elf units ranges lines fault are listed named refused = inr (units, are, inr (ranges, listed, inr (lines, named, inl refused)))

refused_by_types : (elf : Elf) (units : Units) (ranges : List ℕ) (lines : List Lines) (frames : List ℕ) (at : ℕ) → units_stage elf (Ok units) → ranges_stage elf units (Ok ranges) → lines_stage elf units (Ok lines)
    → frames_stage elf (Ok frames) → type_fault units ≡ Some at → IsRefused elf (n.TypeLoop at)
unfolding all_stages followed_by gives_or_refuses
refused_by_types elf units ranges lines frames at are listed named ruled first = inr (units, are, inr (ranges, listed, inr (lines, named, inr (frames, ruled, inl (at, first, refl)))))

-- ... where memory may be wanting
pub types_refused : (elf : Elf) (units : Units) (ranges : List ℕ) (lines : List Lines) (frames : List ℕ) (fault : NamesFault) → units_stage elf (Ok units) → ranges_stage elf units (Ok ranges) → lines_stage elf units (Ok lines)
    → frames_stage elf (Ok frames) → (fault ≡ n.NoMemory) ⊎ ((at : ℕ) × (fault ≡ n.TypeLoop at) × (type_fault units ≡ Some at)) → (fault ≡ n.NoMemory) ⊎ IsRefused elf fault
types_refused elf units ranges lines frames fault are listed named ruled (inl none) = inl none
types_refused elf units ranges lines frames fault are listed named ruled (inr loop) = inr (subst (IsRefused elf) (sym loop.1) (refused_by_types elf units ranges lines frames loop.0 are listed named ruled loop.2))

pub frames_refused : (elf : Elf) (units : Units) (ranges : List ℕ) (lines : List Lines) (fault : NamesFault) → units_stage elf (Ok units) → ranges_stage elf units (Ok ranges) → lines_stage elf units (Ok lines)
    → (fault ≡ n.NoMemory) ⊎ frames_stage elf (Err fault) → (fault ≡ n.NoMemory) ⊎ IsRefused elf fault
frames_refused elf units ranges lines fault are listed named (inl none) = inl none
frames_refused elf units ranges lines fault are listed named (inr refused) = inr (refused_by_frames elf units ranges lines fault are listed named refused)

pub units_refused : (elf : Elf) (fault : NamesFault) → (fault ≡ n.NoMemory) ⊎ units_stage elf (Err fault) → (fault ≡ n.NoMemory) ⊎ IsRefused elf fault
units_refused elf fault (inl none) = inl none
units_refused elf fault (inr refused) = inr (refused_by_units elf fault refused)

pub ranges_refused : (elf : Elf) (units : Units) (fault : NamesFault) → units_stage elf (Ok units) → (fault ≡ n.NoMemory) ⊎ ranges_stage elf units (Err fault) → (fault ≡ n.NoMemory) ⊎ IsRefused elf fault
ranges_refused elf units fault are (inl none) = inl none
ranges_refused elf units fault are (inr refused) = inr (refused_by_ranges elf units fault are refused)

pub lines_refused : (elf : Elf) (units : Units) (ranges : List ℕ) (fault : NamesFault) → units_stage elf (Ok units) → ranges_stage elf units (Ok ranges) → (fault ≡ n.NoMemory) ⊎ lines_stage elf units (Err fault)
    → (fault ≡ n.NoMemory) ⊎ IsRefused elf fault
lines_refused elf units ranges fault are listed (inl none) = inl none
lines_refused elf units ranges fault are listed (inr refused) = inr (refused_by_lines elf units ranges fault are listed refused)

-- ---- the units

pub given_units : (elf : Elf) (units : Units) → AreUnits (unit_sections elf) units → units_stage elf (Ok units)
unfolding gives_or_refuses
given_units elf units are = are

pub few_units_of : (elf : Elf) (units : Units) → units_stage elf (Ok units) → length (unit_sections elf).info < 2 ^ 32 → length units.list < 2 ^ 32
unfolding gives_or_refuses
few_units_of elf units are short = few_units (unit_sections elf) units are short

pub few_dies_of : (elf : Elf) (units : Units) → units_stage elf (Ok units) → length (dies_of_units units.list) < 2 ^ 32
unfolding gives_or_refuses
few_dies_of elf units are = few_dies (unit_sections elf) units are

-- the units' refusal, or want of memory
memory_or_not : (fault : DieFault) → (fault ≡ d.NoMemory) ⊎ (fault ≡ d.NoMemory → ⊥)
memory_or_not d.NoMemory = inl refl
memory_or_not (d.Short at) = inr (λ e. cc)
memory_or_not (d.Abbrev at) = inr (λ e. cc)
memory_or_not (d.Form at) = inr (λ e. cc)
memory_or_not (d.Target at) = inr (λ e. cc)
memory_or_not (d.TooMany at) = inr (λ e. cc)

pub refused_units : (elf : Elf) (fault : DieFault) (told : NamesFault) → (fault ≡ d.NoMemory) ⊎ IsRefusal (unit_sections elf) fault → (fault ≡ d.NoMemory → told ≡ n.NoMemory) → ((fault ≡ d.NoMemory → ⊥) → told ≡ n.Info fault)
    → (told ≡ n.NoMemory) ⊎ units_stage elf (Err told)
unfolding gives_or_refuses
refused_units elf fault told (inl none) memory info = inl (memory none)
refused_units elf fault told (inr refused) memory info = elim (memory_or_not fault) [ inl none ↦ inl (memory none) | inr some ↦ inr (fault, refused, info some) ]

-- ---- the range lists

pub given_ranges : (elf : Elf) (units : Units) (ranges : List ℕ) → ranges ≡ section elf (codes ".debug_ranges") → first_range_fault ranges units ≡ None → ranges_stage elf units (Ok ranges)
unfolding gives_or_refuses
given_ranges elf units ranges are ended = (are, ap (λ rs. first_range_fault rs units) (sym are) ∙ ended)

pub refused_ranges : (elf : Elf) (units : Units) (ranges : List ℕ) (fault : DieFault) → ranges ≡ section elf (codes ".debug_ranges") → first_range_fault ranges units ≡ Some fault → ranges_stage elf units (Err (n.Ranges fault))
unfolding gives_or_refuses
refused_ranges elf units ranges fault are first = (fault, ap (λ rs. first_range_fault rs units) (sym are) ∙ first, refl)

-- ---- the line tables

pub given_lines : (elf : Elf) (units : Units) (bytes offsets : List ℕ) → bytes ≡ line_section elf → offsets ≡ line_offsets units.list → tables_fault bytes offsets ≡ None → lines_stage elf units (Ok (line_tables elf units))
unfolding gives_or_refuses
given_lines elf units bytes offsets are all sound = (refl, ap (λ bs. tables_fault bs (line_offsets units.list)) (sym are) ∙ ap (tables_fault bytes) (sym all) ∙ sound)

line_memory_or_not : (fault : LineFault) → (fault ≡ l.NoMemory) ⊎ (fault ≡ l.NoMemory → ⊥)
line_memory_or_not l.NoMemory = inl refl
line_memory_or_not (l.Short at) = inr (λ e. cc)
line_memory_or_not (l.Version at) = inr (λ e. cc)
line_memory_or_not (l.Header at) = inr (λ e. cc)
line_memory_or_not (l.Opcode at) = inr (λ e. cc)

pub refused_lines : (elf : Elf) (units : Units) (bytes offsets : List ℕ) (fault : LineFault) (told : NamesFault) → bytes ≡ line_section elf → offsets ≡ line_offsets units.list
    → (fault ≡ l.NoMemory) ⊎ (tables_fault bytes offsets ≡ Some fault) → (fault ≡ l.NoMemory → told ≡ n.NoMemory) → ((fault ≡ l.NoMemory → ⊥) → told ≡ n.Lines fault)
    → (told ≡ n.NoMemory) ⊎ lines_stage elf units (Err told)
unfolding gives_or_refuses
refused_lines elf units bytes offsets fault told are all (inl none) memory lines = inl (memory none)
refused_lines elf units bytes offsets fault told are all (inr first) memory lines = elim (line_memory_or_not fault) [
  | inl none ↦ inl (memory none)
  | inr some ↦ inr (fault, ap (λ bs. tables_fault bs (line_offsets units.list)) (sym are) ∙ ap (tables_fault bytes) (sym all) ∙ first, lines some)
]

-- ---- the frames

pub given_frames : (elf : Elf) (bytes : List ℕ) → bytes ≡ frame_section elf → frames_fault bytes ≡ None → frames_stage elf (Ok (frame_section elf))
unfolding gives_or_refuses
given_frames elf bytes are sound = (refl, ap frames_fault (sym are) ∙ sound)

frame_memory_or_not : (fault : CfiFault) → (fault ≡ f.NoMemory) ⊎ (fault ≡ f.NoMemory → ⊥)
frame_memory_or_not f.NoMemory = inl refl
frame_memory_or_not (f.Short at) = inr (λ e. cc)
frame_memory_or_not (f.Cie at) = inr (λ e. cc)

pub refused_frames : (elf : Elf) (bytes : List ℕ) (fault : CfiFault) (told : NamesFault) → bytes ≡ frame_section elf → (fault ≡ f.NoMemory) ⊎ (frames_fault bytes ≡ Some fault) → (fault ≡ f.NoMemory → told ≡ n.NoMemory)
    → ((fault ≡ f.NoMemory → ⊥) → told ≡ n.Frame fault) → (told ≡ n.NoMemory) ⊎ frames_stage elf (Err told)
unfolding gives_or_refuses
refused_frames elf bytes fault told are (inl none) memory frames = inl (memory none)
refused_frames elf bytes fault told are (inr first) memory frames = elim (frame_memory_or_not fault) [
  | inl none ↦ inl (memory none)
  | inr some ↦ inr (fault, ap frames_fault (sym are) ∙ first, frames some)
]
