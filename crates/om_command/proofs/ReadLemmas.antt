-- What reading one file after another comes to.
use Rattle.std.proofs.Common.{◌≡◌, ◌∙◌, ℕ, zero, suc, ◌+◌, ◌<◌, List, [], ◌∷◌, ◌++◌, length, map, take, drop, get_or, Option, refl, sym, ap, subst, arith}
use Rattle.std.proofs.lemmas.List.{map-append, take_more}
use Rattle.std.specs.Prelude.{IsTrue}
use Rattle.om_io.specs.Shelf.{FilesByName, IsHeld, NoneFalls, ShelfTold, StaysFaultless}
use Rattle.om_io.proofs.PutsLemmas.{rose_between}
use Rattle.om_command.specs.Reads.{AreMet, IsLonger, IsMet, IsUnread, OnlyTakes, StopsAt}
use Rattle.om_command.specs.Result.{AreHeld}
use Rattle.om_command.specs.declared.ending.Ending.{Ending}
use Rattle.om_command.specs.declared.ending.Ending.TheVariants.{Done, Refused, Exceeded, Unread, Unput, Unwritten, NoMemory}

-- one more file is read
met_then : (told : Option FilesByName) (names contents : List (List ℕ)) (name bytes : List ℕ) → AreMet told names contents → IsMet told name bytes
    → AreMet told (names ++ name ∷ []) (contents ++ bytes ∷ [])
met_then told [] [] name bytes met is = (is, tt)
met_then told (first ∷ names) (content ∷ contents) name bytes met is = (met.0, met_then told names contents name bytes met.1 is)
met_then told [] (content ∷ contents) name bytes met is = absurd met
met_then told (first ∷ names) [] name bytes met is = absurd met

-- taking one file
pub took : (before after : ShelfTold) (name : List ℕ) → after.files ≡ before.files → NoneFalls before.failed_takes after.failed_takes
    → NoneFalls before.failed_puts after.failed_puts → (IsTrue before.is_faultless → IsHeld before.files name → StaysFaultless before after)
    → OnlyTakes before after (name ∷ [])
took before after name same takes puts stays = record {
  held = same;
  takes = takes;
  puts = puts;
  faultless = λ known held. let still = stays known held.0 in (still.still, still.takes, still.puts);
}

-- taking no file
pub takes_none : (told : ShelfTold) → OnlyTakes told told []
takes_none told = record {
  held = refl;
  takes = λ name. omega arith;
  puts = λ name. omega arith;
  faultless = λ known held. (known, λ name. refl, λ name. refl);
}

-- what is held of some names and of one more
held_split : (told : Option FilesByName) (names : List (List ℕ)) (name : List ℕ) → AreHeld told (names ++ name ∷ []) → AreHeld told names × AreHeld told (name ∷ [])
held_split told [] name held = (tt, held)
held_split told (first ∷ names) name held = let rest = held_split told names name held.1 in ((held.0, rest.0), rest.1)

-- taking some files and then one more
takes_then : (before mid after : ShelfTold) (names : List (List ℕ)) (name : List ℕ) → OnlyTakes before mid names → OnlyTakes mid after (name ∷ [])
    → OnlyTakes before after (names ++ name ∷ [])
takes_then before mid after names name p q = record {
  held = q.held ∙ p.held;
  takes = λ other. let a = p.takes other in let b = q.takes other in omega arith;
  puts = λ other. let a = p.puts other in let b = q.puts other in omega arith;
  faultless = λ known held.
      let both = held_split before.files names name held in
      let first = p.faultless known both.0 in
      let then = q.faultless first.0 (subst (λ files. AreHeld files (name ∷ [])) (sym p.held) both.1) in
      (then.0, λ other. then.1 other ∙ first.1 other, λ other. then.2 other ∙ first.2 other);
}

-- ---- a loop over names

-- names are those before one of them, that one, and those after it
split_at : {A : Type 0} (f : A → List ℕ) (names : List A) (i : ℕ) (d : A) → i < length names
    → map f names ≡ map f (take i names) ++ f (get_or names i d) ∷ map f (drop (suc i) names)
split_at f (name ∷ names) zero d h = refl
split_at f (name ∷ names) (suc i) d h = ap (λ l. f name ∷ l) (split_at f names i d (omega arith))
split_at f [] i d h = absurd (omega arith)

names_split : {A : Type 0} (f : A → List ℕ) (names : List A) (i : ℕ) (item : A) → i < length names → item ≡ get_or names i item
    → map f names ≡ map f (take i names) ++ f item ∷ map f (drop (suc i) names)
names_split f names i item h is =
    split_at f names i item h ∙ ap (λ (it : List ℕ). map f (take i names) ++ it ∷ map f (drop (suc i) names)) (ap f (sym is))

-- one more name
names_more : {A : Type 0} (f : A → List ℕ) (names : List A) (i : ℕ) (item : A) → i < length names → item ≡ get_or names i item
    → map f (take (i + 1) names) ≡ map f (take i names) ++ f item ∷ []
names_more f names i item h is = ap (map f) (take_more names i item h ∙ ap (λ y. take i names ++ y ∷ []) (sym is)) ∙ map-append f (take i names) (item ∷ [])

-- one more file is read
pub met_more : {A : Type 0} (f : A → List ℕ) (before mid : ShelfTold) (names : List A) (i : ℕ) (item : A) (contents : List (List ℕ)) (bytes : List ℕ)
    → i < length names → item ≡ get_or names i item → AreMet before.files (map f (take i names)) contents → OnlyTakes before mid (map f (take i names))
    → IsMet mid.files (f item) bytes → AreMet before.files (map f (take (i + 1) names)) (contents ++ bytes ∷ [])
met_more f before mid names i item contents bytes h is met takes one =
    subst (λ l. AreMet before.files l (contents ++ bytes ∷ [])) (sym (names_more f names i item h is))
    (met_then before.files (map f (take i names)) contents (f item) bytes met (subst (λ files. IsMet files (f item) bytes) takes.held one))

pub takes_more : {A : Type 0} (f : A → List ℕ) (before mid after : ShelfTold) (names : List A) (i : ℕ) (item : A)
    → i < length names → item ≡ get_or names i item → OnlyTakes before mid (map f (take i names)) → OnlyTakes mid after (f item ∷ [])
    → OnlyTakes before after (map f (take (i + 1) names))
takes_more f before mid after names i item h is p q =
    subst (λ l. OnlyTakes before after l) (sym (names_more f names i item h is)) (takes_then before mid after (map f (take i names)) (f item) p q)

-- what is seen so of a name, and how its count rose, is so from an earlier moment on
unread_since : (before mid after : ShelfTold) (name : List ℕ) (ending : Ending) → mid.files ≡ before.files → NoneFalls before.failed_takes mid.failed_takes
    → IsUnread mid after name ending → IsUnread before after name ending
unread_since before mid after name (Unread file) same takes is =
    (is.0, rose_between (before.failed_takes name) (mid.failed_takes name) (after.failed_takes name) (after.failed_takes name) (takes name) is.1 (omega arith))
unread_since before mid after name (Exceeded file) same takes is = (is.0, subst (λ files. IsLonger files name) same is.1)
unread_since before mid after name NoMemory same takes is = tt
unread_since before mid after name Done same takes is = absurd is
unread_since before mid after name (Refused refusal) same takes is = absurd is
unread_since before mid after name (Unput file) same takes is = absurd is
unread_since before mid after name Unwritten same takes is = absurd is

-- reading stops at one of some names
pub stops_at : {A : Type 0} (f : A → List ℕ) (before mid after : ShelfTold) (names : List A) (i : ℕ) (item : A) (contents : List (List ℕ)) (ending : Ending)
    → i < length names → item ≡ get_or names i item → AreMet before.files (map f (take i names)) contents → OnlyTakes before mid (map f (take i names))
    → IsUnread mid after (f item) ending → StopsAt before after (map f names) ending
stops_at f before mid after names i item contents ending h at met takes is = record {
  earlier = map f (take i names);
  name = f item;
  later = map f (drop (suc i) names);
  all = names_split f names i item h at;
  contents = contents;
  met = met;
  unread = unread_since before mid after (f item) ending takes.held takes.takes is;
}

-- what is held of names is held of the first of them, and of the next one
held_first : (told : Option FilesByName) (earlier : List (List ℕ)) (name : List ℕ) (later : List (List ℕ)) → AreHeld told (earlier ++ name ∷ later) → AreHeld told earlier × AreHeld told (name ∷ [])
held_first told [] name later held = (tt, (held.0, tt))
held_first told (first ∷ earlier) name later held = let rest = held_first told earlier name later held.1 in ((held.0, rest.0), rest.1)

-- taking the first of some names and then the next one
pub takes_stop : {A : Type 0} (f : A → List ℕ) (before mid after : ShelfTold) (names : List A) (i : ℕ) (item : A)
    → i < length names → item ≡ get_or names i item → OnlyTakes before mid (map f (take i names)) → OnlyTakes mid after (f item ∷ [])
    → OnlyTakes before after (map f names)
takes_stop f before mid after names i item h is p q = record {
  held = q.held ∙ p.held;
  takes = λ other. let a = p.takes other in let b = q.takes other in omega arith;
  puts = λ other. let a = p.puts other in let b = q.puts other in omega arith;
  faultless = λ known held.
      let both = held_first before.files (map f (take i names)) (f item) (map f (drop (suc i) names)) (subst (λ l. AreHeld before.files l) (names_split f names i item h is) held) in
      let first = p.faultless known both.0 in
      let then = q.faultless first.0 (subst (λ files. AreHeld files (f item ∷ [])) (sym p.held) both.1) in
      (then.0, λ other. then.1 other ∙ first.1 other, λ other. then.2 other ∙ first.2 other);
}
