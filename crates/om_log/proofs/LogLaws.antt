-- Lists of entries, and that a file is spelled in one way: one log or one fault, and never both.
use Rattle.std.proofs.Common.{◌≡◌, ℕ, ◌-◌, List, [], ◌∷◌, ◌++◌, length, refl, sym, ap, subst, ◌∙◌, append_assoc, arith, inl, inr, ◌⊎◌}
use Rattle.std.proofs.lemmas.List.{append-nil}
use Rattle.om_log.specs.Faults.{IsKind, IsNoEntry, IsRefused, IsFaultBehind, IsBodyFault, IsFault}
use Rattle.om_log.specs.Grammar.{spelling, spellings, Fits, HasCause, step_of, next_of, IsEnd, MayStand, AreLawful, HasEnd, next_after, IsLog}
use Rattle.om_log.specs.declared.entry.Entry.{Entry}
use Rattle.om_log.specs.declared.entry.Entry.TheVariants.{Call, Mark, End}
use Rattle.om_log.specs.declared.fault.LogFault.{LogFault}
use Rattle.om_log.specs.declared.log.Log.{Log}
use Rattle.om_log.specs.declared.start.Start.{Start}
use Rattle.om_log.proofs.FieldLaws.{one_front}
use Rattle.om_log.proofs.EntryLaws.{entry_law}
use Rattle.om_log.proofs.HeaderLaws.{no_header_fault, one_header, one_header_fault}

-- ---- one more entry

pub lawful_more : (least : ℕ) (es : List Entry) (e : Entry) → AreLawful least es → (HasEnd es → ⊥) → MayStand (next_after least es) e → AreLawful least (es ++ e ∷ [])
unfolding AreLawful HasEnd next_after
lawful_more least [] e lawful running stand = (stand, (λ _. refl), tt)
lawful_more least (x ∷ xs) e lawful running stand =
    (lawful.0, (λ end. absurd (running (inl end))), lawful_more (next_of x) xs e lawful.2 (λ h. running (inr h)) stand)

pub runs_more : (es : List Entry) (e : Entry) → (HasEnd es → ⊥) → (IsEnd e → ⊥) → HasEnd (es ++ e ∷ []) → ⊥
unfolding HasEnd
runs_more [] e running open_ (inl end) = open_ end
runs_more [] e running open_ (inr h) = h
runs_more (x ∷ xs) e running open_ (inl end) = running (inl end)
runs_more (x ∷ xs) e running open_ (inr h) = runs_more xs e (λ k. running (inr k)) open_ h

pub ends_more : (es : List Entry) (e : Entry) → IsEnd e → HasEnd (es ++ e ∷ [])
unfolding HasEnd
ends_more [] e end = inl end
ends_more (x ∷ xs) e end = inr (ends_more xs e end)

pub next_more : (least : ℕ) (es : List Entry) (e : Entry) → next_after least (es ++ e ∷ []) ≡ next_of e
unfolding next_after
next_more least [] e = refl
next_more least (x ∷ xs) e = next_more (next_of x) xs e

pub spellings_more : (es : List Entry) (e : Entry) (tail : List ℕ) → spellings es ++ (spelling e ++ tail) ≡ spellings (es ++ e ∷ []) ++ tail
unfolding spellings
spellings_more [] e tail = ap (λ (x : List ℕ). x ++ tail) (sym (append-nil (spelling e)))
spellings_more (x ∷ xs) e tail =
    append_assoc (spelling x) (spellings xs) (spelling e ++ tail) ∙ ap (λ (y : List ℕ). spelling x ++ y) (spellings_more xs e tail)
    ∙ sym (append_assoc (spelling x) (spellings (xs ++ e ∷ [])) tail)

-- ---- a list and what stands behind it

pub lawful_behind : (least : ℕ) (es more : List Entry) → AreLawful least (es ++ more) → AreLawful (next_after least es) more
unfolding AreLawful next_after
lawful_behind least [] more lawful = lawful
lawful_behind least (e ∷ es) more lawful = lawful_behind (next_of e) es more lawful.2

empty_behind : (es more : List Entry) → es ++ more ≡ [] → more ≡ []
empty_behind [] more h = h
empty_behind (e ∷ es) more h = absurd cc

pub none_behind : (least : ℕ) (es more : List Entry) → AreLawful least (es ++ more) → HasEnd es → more ≡ []
unfolding AreLawful HasEnd
none_behind least [] more lawful ended = absurd ended
none_behind least (e ∷ es) more lawful (inl end) = empty_behind es more (lawful.1 end)
none_behind least (e ∷ es) more lawful (inr ended) = none_behind (next_of e) es more lawful.2 ended

-- the first list of entries is a front of the second, and what stands behind it is spelled so
pub record IsFront (es fs : List Entry) (r t : List ℕ) : Type 0 where
  pub more : List Entry
  pub longer : fs ≡ es ++ more
  pub behind : r ≡ spellings more ++ t

front_more : (e f : Entry) (es fs : List Entry) (r t : List ℕ) → e ≡ f → IsFront es fs r t → IsFront (e ∷ es) (f ∷ fs) r t
front_more e f es fs r t same front = record { more = front.more; longer = (let h = front.longer in cc); behind = front.behind }

-- of two lawful lists at the front of the same bytes, one is a front of the other
pub same_front : (n m : ℕ) (es fs : List Entry) (r t : List ℕ) → AreLawful n es → AreLawful m fs → spellings es ++ r ≡ spellings fs ++ t → IsFront es fs r t ⊎ IsFront fs es t r
unfolding AreLawful spellings
same_front n m [] fs r t le lf same = inl (record { more = fs; longer = refl; behind = same })
same_front n m (e ∷ es) [] r t le lf same = inr (record { more = e ∷ es; longer = refl; behind = sym same })
same_front n m (e ∷ es) (f ∷ fs) r t le lf same =
    let regrouped : spelling e ++ (spellings es ++ r) ≡ spelling f ++ (spellings fs ++ t) = sym (append_assoc (spelling e) (spellings es) r) ∙ same ∙ append_assoc (spelling f) (spellings fs) t in
    let one = one_front entry_law e f (spellings es ++ r) (spellings fs ++ t) le.0.fits lf.0.fits regrouped in
    elim (same_front (next_of e) (next_of f) es fs r t le.2 lf.2 one.1) [
      | inl front ↦ inl (front_more e f es fs r t one.0 front)
      | inr front ↦ inr (front_more f e fs es t r (sym one.0) front)
    ]

-- ---- what is refused

not_empty : (e : Entry) (tail : List ℕ) → [] ≡ spelling e ++ tail → ⊥
unfolding spelling
not_empty (Call step number args result writes) tail h = cc
not_empty (Mark step pc sum) tail h = cc
not_empty (End step cause value) tail h = cc

kind_fits : (kind : ℕ) (rest : List ℕ) (e : Entry) (tail : List ℕ) → kind ∷ rest ≡ spelling e ++ tail → IsKind kind
unfolding spelling
kind_fits kind rest (Call step number args result writes) tail h = let is : kind ≡ 1 = cc in (omega arith, omega arith)
kind_fits kind rest (Mark step pc sum) tail h = let is : kind ≡ 2 = cc in (omega arith, omega arith)
kind_fits kind rest (End step cause value) tail h = let is : kind ≡ 3 = cc in (omega arith, omega arith)

-- bytes that begin with an entry of a cause begin with an entry
entry_there : (at : ℕ) (rest : List ℕ) (fault : LogFault) (e : Entry) (tail : List ℕ) → rest ≡ spelling e ++ tail → Fits e → HasCause e → IsNoEntry at rest fault → ⊥
entry_there at [] fault e tail same fits cause h = not_empty e tail same
entry_there at (kind ∷ rest) fault e tail same fits cause (inl h) = h.0 (kind_fits kind rest e tail same)
entry_there at (kind ∷ rest) fault e tail same fits cause (inr (inl h)) = h.1 e tail fits same
entry_there at (kind ∷ rest) fault e tail same fits cause (inr (inr h)) =
    let one = one_front entry_law e h.0.entry tail h.0.tail fits h.0.fits (sym same ∙ h.0.spelled) in
    h.0.causeless (subst HasCause one.0 cause)

-- an entry that may stand isn't refused
not_refused : (least at : ℕ) (rest : List ℕ) (fault : LogFault) (e : Entry) (tail : List ℕ) → rest ≡ spelling e ++ tail → MayStand least e → IsRefused least at rest fault → ⊥
unfolding IsRefused
not_refused least at rest fault e tail same stand (inl h) = entry_there at rest fault e tail same stand.fits stand.cause h
not_refused least at rest fault e tail same stand (inr h) =
    let one = one_front entry_law e h.0.entry tail h.0.tail stand.fits h.0.fits (sym same ∙ h.0.spelled) in
    omega (arith, h.0.early, stand.step, ap step_of one.0)

one_no_entry : (at : ℕ) (rest : List ℕ) (f g : LogFault) → IsNoEntry at rest f → IsNoEntry at rest g → f ≡ g
one_no_entry at [] f g a b = a ∙ sym b
one_no_entry at (kind ∷ rest) f g (inl a) (inl b) = a.1 ∙ sym b.1
one_no_entry at (kind ∷ rest) f g (inl a) (inr (inl b)) = absurd (a.0 b.0)
one_no_entry at (kind ∷ rest) f g (inl a) (inr (inr b)) = a.1 ∙ sym b.1
one_no_entry at (kind ∷ rest) f g (inr (inl a)) (inl b) = absurd (b.0 a.0)
one_no_entry at (kind ∷ rest) f g (inr (inl a)) (inr (inl b)) = a.2 ∙ sym b.2
one_no_entry at (kind ∷ rest) f g (inr (inl a)) (inr (inr b)) = absurd (a.1 b.0.entry b.0.tail b.0.fits b.0.spelled)
one_no_entry at (kind ∷ rest) f g (inr (inr a)) (inl b) = a.1 ∙ sym b.1
one_no_entry at (kind ∷ rest) f g (inr (inr a)) (inr (inl b)) = absurd (b.1 a.0.entry a.0.tail a.0.fits a.0.spelled)
one_no_entry at (kind ∷ rest) f g (inr (inr a)) (inr (inr b)) = a.1 ∙ sym b.1

one_refusal : (least at : ℕ) (rest : List ℕ) (f g : LogFault) → IsRefused least at rest f → IsRefused least at rest g → f ≡ g
unfolding IsRefused
one_refusal least at rest f g (inl a) (inl b) = one_no_entry at rest f g a b
one_refusal least at rest f g (inl a) (inr b) = absurd (entry_there at rest f b.0.entry b.0.tail b.0.spelled b.0.fits b.0.cause a)
one_refusal least at rest f g (inr a) (inl b) = absurd (entry_there at rest g a.0.entry a.0.tail a.0.spelled a.0.fits a.0.cause b)
one_refusal least at rest f g (inr a) (inr b) = a.1 ∙ sym b.1

one_fault_behind : (es : List Entry) (at : ℕ) (rest : List ℕ) (f g : LogFault) → IsFaultBehind es at rest f → IsFaultBehind es at rest g → f ≡ g
unfolding IsFaultBehind
one_fault_behind es at rest f g (inl a) (inl b) = one_refusal (next_after 0 es) at rest f g a.1 b.1
one_fault_behind es at rest f g (inl a) (inr b) = absurd (a.0 b.0)
one_fault_behind es at rest f g (inr a) (inl b) = absurd (b.0 a.0)
one_fault_behind es at rest f g (inr a) (inr b) = a.2 ∙ sym b.2

-- in front of more lawful entries there is no fault
no_fault_before : (es : List Entry) (e : Entry) (more : List Entry) (at : ℕ) (rest t : List ℕ) (fault : LogFault) → AreLawful 0 (es ++ e ∷ more) → rest ≡ spellings (e ∷ more) ++ t → IsFaultBehind es at rest fault → ⊥
unfolding IsFaultBehind AreLawful spellings
no_fault_before es e more at rest t fault lawful same (inl h) =
    let stand = (lawful_behind 0 es (e ∷ more) lawful).0 in
    not_refused (next_after 0 es) at rest fault e (spellings more ++ t) (same ∙ append_assoc (spelling e) (spellings more) t) stand h.1
no_fault_before es e more at rest t fault lawful same (inr h) = let none = none_behind 0 es (e ∷ more) lawful h.0 in cc

-- ---- bodies

same_rest : (es fs : List Entry) (r t : List ℕ) (more : List Entry) → fs ≡ es ++ more → r ≡ spellings more ++ t → more ≡ [] → (es ≡ fs) × (r ≡ t)
unfolding spellings
same_rest es fs r t [] longer behind none = (sym (longer ∙ append-nil es), behind)
same_rest es fs r t (e ∷ more) longer behind none = absurd cc

fault_by_more : (len : ℕ) (body : List ℕ) (f g : LogFault) (p : IsBodyFault len body f) (q : IsBodyFault len body g) (more : List Entry) → q.entries ≡ p.entries ++ more → p.rest ≡ spellings more ++ q.rest → f ≡ g
fault_by_more len body f g p q [] longer behind =
    let same = same_rest p.entries q.entries p.rest q.rest [] longer behind refl in
    let P : List Entry → List ℕ → Type 0 = λ es r. IsFaultBehind es (len - length r) r f in
    let moved : IsFaultBehind q.entries (len - length q.rest) q.rest f = subst (λ r. P q.entries r) same.1 (subst (λ es. P es p.rest) same.0 p.behind) in
    one_fault_behind q.entries (len - length q.rest) q.rest f g moved q.behind
fault_by_more len body f g p q (e ∷ more) longer behind =
    absurd (no_fault_before p.entries e more (len - length p.rest) p.rest q.rest f (subst (AreLawful 0) longer q.lawful) behind p.behind)

pub one_body_fault : (len : ℕ) (body : List ℕ) (f g : LogFault) → IsBodyFault len body f → IsBodyFault len body g → f ≡ g
one_body_fault len body f g p q =
    elim (same_front 0 0 p.entries q.entries p.rest q.rest p.lawful q.lawful (sym p.spelled ∙ q.spelled)) [
      | inl front ↦ fault_by_more len body f g p q front.more front.longer front.behind
      | inr front ↦ sym (fault_by_more len body g f q p front.more front.longer front.behind)
    ]

-- entries with an END at the end of the bytes have no fault behind them
at_end : (es : List Entry) (at : ℕ) (rest : List ℕ) (fault : LogFault) → HasEnd es → [] ≡ rest → IsFaultBehind es at rest fault → ⊥
unfolding IsFaultBehind
at_end es at rest fault ended none (inl h) = h.0 ended
at_end es at rest fault ended none (inr h) = h.1 (sym none)

longer_faults : (len : ℕ) (es : List Entry) (f : LogFault) → AreLawful 0 es → HasEnd es → (p : IsBodyFault len (spellings es) f) (more : List Entry) → es ≡ p.entries ++ more → p.rest ≡ spellings more ++ [] → ⊥
longer_faults len es f lawful ended p [] longer behind =
    let same = same_rest p.entries es p.rest [] [] longer behind refl in
    at_end p.entries (len - length p.rest) p.rest f (subst HasEnd (sym same.0) ended) (sym same.1) p.behind
longer_faults len es f lawful ended p (e ∷ more) longer behind =
    no_fault_before p.entries e more (len - length p.rest) p.rest [] f (subst (AreLawful 0) longer lawful) behind p.behind

-- a whole list of entries has no fault
pub no_body_fault : (len : ℕ) (es : List Entry) (f : LogFault) → AreLawful 0 es → HasEnd es → IsBodyFault len (spellings es) f → ⊥
no_body_fault len es f lawful ended p =
    elim (same_front 0 0 es p.entries [] p.rest lawful p.lawful (append-nil (spellings es) ∙ p.spelled)) [
      | inl front ↦
          (let none = none_behind 0 es front.more (subst (AreLawful 0) front.longer p.lawful) ended in
          let same = same_rest es p.entries [] p.rest front.more front.longer front.behind none in
          at_end p.entries (len - length p.rest) p.rest f (subst HasEnd same.0 ended) same.1 p.behind)
      | inr front ↦ longer_faults len es f lawful ended p front.more front.longer front.behind
    ]

no_more : (more : List Entry) → [] ≡ spellings more ++ [] → more ≡ []
unfolding spellings
no_more [] same = refl
no_more (e ∷ more) same = absurd (not_empty e (spellings more ++ []) (same ∙ append_assoc (spelling e) (spellings more) []))

-- two lawful lists that spell the same bytes are one
pub one_list : (n m : ℕ) (es fs : List Entry) → AreLawful n es → AreLawful m fs → spellings es ≡ spellings fs → es ≡ fs
one_list n m es fs le lf same =
    elim (same_front n m es fs [] [] le lf (append-nil (spellings es) ∙ same ∙ sym (append-nil (spellings fs)))) [
      | inl front ↦ (same_rest es fs [] [] front.more front.longer front.behind (no_more front.more front.behind)).0
      | inr front ↦ sym (same_rest fs es [] [] front.more front.longer front.behind (no_more front.more front.behind)).0
    ]

longer_by : (len : ℕ) (body : List ℕ) (f : LogFault) (p : IsBodyFault len body f) (es : List Entry) (rest : List ℕ) → AreLawful 0 es → (more : List Entry) → es ≡ p.entries ++ more → p.rest ≡ spellings more ++ rest → (others : List Entry) × (p.entries ≡ es ++ others)
longer_by len body f p es rest lawful [] longer behind = ([], sym (append-nil es ∙ longer ∙ append-nil p.entries))
longer_by len body f p es rest lawful (e ∷ more) longer behind =
    absurd (no_fault_before p.entries e more (len - length p.rest) p.rest rest f (subst (AreLawful 0) longer lawful) behind p.behind)

-- the entries before a fault go on behind every other lawful list in front of the body
pub longest_list : (len : ℕ) (body : List ℕ) (f : LogFault) (p : IsBodyFault len body f) (es : List Entry) (rest : List ℕ) → AreLawful 0 es → body ≡ spellings es ++ rest → (more : List Entry) × (p.entries ≡ es ++ more)
longest_list len body f p es rest lawful same =
    elim (same_front 0 0 p.entries es p.rest rest p.lawful lawful (sym p.spelled ∙ same)) [
      | inl front ↦ longer_by len body f p es rest lawful front.more front.longer front.behind
      | inr front ↦ (front.more, front.longer)
    ]

-- ---- files

log_is : (s t : Start) (es fs : List Entry) → s ≡ t → es ≡ fs → (let a : Log = record { start = s; entries = es } in a) ≡ record { start = t; entries = fs }
log_is s t es fs p q = cc

-- two logs of one file are one
pub one_log : (file : List ℕ) (a b : Log) → IsLog file a → IsLog file b → a ≡ b
one_log file a b p q =
    let one = one_header a.start b.start (spellings a.entries) (spellings b.entries) p.lawful.fits q.lawful.fits (sym p.spelled ∙ q.spelled) in
    let list = one_list 0 0 a.entries b.entries p.lawful.entries q.lawful.entries one.1 in
    log_is a.start b.start a.entries b.entries one.0 list

-- two faults of one file are one
pub one_fault : (file : List ℕ) (f g : LogFault) → IsFault file f → IsFault file g → f ≡ g
one_fault file f g (inl a) (inl b) = one_header_fault file f g a b
one_fault file f g (inl a) (inr b) = absurd (no_header_fault file f b.start b.body b.fits b.lawful b.spelled a)
one_fault file f g (inr a) (inl b) = absurd (no_header_fault file g a.start a.body a.fits a.lawful a.spelled b)
one_fault file f g (inr a) (inr b) =
    let one = one_header a.start b.start a.body b.body a.fits b.fits (sym a.spelled ∙ b.spelled) in
    one_body_fault (length file) b.body f g (subst (λ body. IsBodyFault (length file) body f) one.1 a.in_body) b.in_body

-- a log has no fault
pub no_fault : (file : List ℕ) (log : Log) (f : LogFault) → IsLog file log → IsFault file f → ⊥
no_fault file log f p (inl h) = no_header_fault file f log.start (spellings log.entries) p.lawful.fits p.lawful.start p.spelled h
no_fault file log f p (inr h) =
    let one = one_header h.start log.start h.body (spellings log.entries) h.fits p.lawful.fits (sym h.spelled ∙ p.spelled) in
    no_body_fault (length file) log.entries f p.lawful.entries p.lawful.ended (subst (λ body. IsBodyFault (length file) body f) one.1 h.in_body)
