-- A query's text is read in one way, by a tree and its typing.
use Rattle.std.proofs.Common.{◌≡◌, ℕ, List, refl, sym, subst, ap, inl, inr, Option, Some, None, Ok, Err}
use Rattle.om_parse.specs.Refusals.{Answers as AnswersTree, HasTree, IsRefusal}
use Rattle.om_parse.specs.declared.fault.ParseFault.{ParseFault}
use Rattle.om_parse.specs.declared.fault.ParseFault.TheVariants as parse
use Rattle.om_parse.specs.declared.tree.Query.{Query}
use Rattle.om_type.specs.Typing.{IsTyped, Variables}
use Rattle.om_type.specs.Unbuilt.{Answers as AnswersTyped, IsUnbuilt}
use Rattle.om_type.specs.declared.fault.TypeFault.{TypeFault}
use Rattle.om_type.specs.declared.fault.TypeFault.TheVariants as type
use Rattle.om_type.specs.declared.typed.Typed.{Typed}
use Rattle.om_command.specs.Readings.{Asks, AsksNothing, IsQueryReading}

-- a text has one tree or is refused, and a tree has one typing or isn't built
pub record OneQuery : Type 0 where
  pub tree : (text : List ℕ) (a b : Query) → HasTree text a → HasTree text b → a ≡ b
  pub either : (text : List ℕ) (query : Query) (fault : ParseFault) → HasTree text query → IsRefusal text fault → ⊥
  pub typing : (catalog : Variables) (query : Query) (a b : Typed) → IsTyped catalog query a → IsTyped catalog query b → a ≡ b
  pub apart : (catalog : Variables) (query : Query) (typed : Typed) → IsTyped catalog query typed → IsUnbuilt catalog query → ⊥

-- a text that asks something doesn't ask for nothing
apart_of : OneQuery → (catalog : Variables) (text : List ℕ) (typed : Typed) → Asks catalog text typed → AsksNothing catalog text → ⊥
apart_of one catalog text typed is (inl other) =
    one.apart catalog is.0 typed is.2 (subst (λ (q : Query). IsUnbuilt catalog q) (one.tree text other.0 is.0 other.1 is.1) other.2)
apart_of one catalog text typed is (inr fault) = one.either text is.0 fault.0 is.1 fault.1

pub one_query_of : OneQuery → (catalog : Variables) (text : List ℕ) (a b : Option Typed) → IsQueryReading catalog text a → IsQueryReading catalog text b → a ≡ b
one_query_of one catalog text (Some a) (Some b) is too =
    ap Some (one.typing catalog is.0 a b is.2 (subst (λ (q : Query). IsTyped catalog q b) (one.tree text too.0 is.0 too.1 is.1) too.2))
one_query_of one catalog text (Some a) None is too = absurd (apart_of one catalog text a is too)
one_query_of one catalog text None (Some b) is too = absurd (apart_of one catalog text b too is)
one_query_of one catalog text None None is too = refl

-- ---- what the reader and the checker answer

-- the tree that was read is the one that there is
tree_is : (text : List ℕ) (tree other : Query) → ((q : Query) → HasTree text q → AnswersTree (Ok tree) (Ok q)) → HasTree text other → other ≡ tree
tree_is text tree other trees has = elim (trees other has) as (λ _. other ≡ tree) [
  | inl e ↦ let same : tree ≡ other = cc in sym same
  | inr e ↦ cc
]

-- where a tree was read, the text isn't refused
tree_apart : (text : List ℕ) (tree : Query) (fault : ParseFault) → ((f : ParseFault) → IsRefusal text f → AnswersTree (Ok tree) (Err f)) → IsRefusal text fault → ⊥
tree_apart text tree fault refusals has = elim (refusals fault has) as (λ _. ⊥) [
  | inl e ↦ cc
  | inr e ↦ cc
]

-- a text whose tree is typed asks what the typing says
pub asks_typed : (catalog : Variables) (text : List ℕ) (tree : Query) (typed : Typed)
    → ((q : Query) → HasTree text q → AnswersTree (Ok tree) (Ok q)) → ((f : ParseFault) → IsRefusal text f → AnswersTree (Ok tree) (Err f))
    → ((t : Typed) → IsTyped catalog tree t → AnswersTyped (Ok typed) (Ok t)) → (IsUnbuilt catalog tree → AnswersTyped (Ok typed) (Err type.Unbuilt))
    → (query : Option Typed) → IsQueryReading catalog text query → Some typed ≡ query
asks_typed catalog text tree typed trees refusals typings unbuilt (Some other) is =
    let same = tree_is text tree is.0 trees is.1 in
    elim (typings other (subst (λ (q : Query). IsTyped catalog q other) same is.2)) as (λ _. Some typed ≡ Some other) [
      | inl e ↦ let equal : typed ≡ other = cc in ap Some equal
      | inr e ↦ cc
    ]
asks_typed catalog text tree typed trees refusals typings unbuilt None (inl other) =
    let same = tree_is text tree other.0 trees other.1 in
    elim (unbuilt (subst (λ (q : Query). IsUnbuilt catalog q) same other.2)) as (λ _. ◌≡◌ {A = Option Typed} (Some typed) None) [
      | inl e ↦ cc
      | inr e ↦ cc
    ]
asks_typed catalog text tree typed trees refusals typings unbuilt None (inr fault) = absurd (tree_apart text tree fault.0 refusals fault.1)

-- a text whose tree isn't built asks nothing
pub asks_unbuilt : (catalog : Variables) (text : List ℕ) (tree : Query) (fault : TypeFault) → fault ≡ type.Unbuilt
    → ((q : Query) → HasTree text q → AnswersTree (Ok tree) (Ok q))
    → ((t : Typed) → IsTyped catalog tree t → AnswersTyped (Err fault) (Ok t))
    → (query : Option Typed) → IsQueryReading catalog text query → None ≡ query
asks_unbuilt catalog text tree fault unbuilt trees typings (Some other) is =
    let same = tree_is text tree is.0 trees is.1 in
    elim (typings other (subst (λ (q : Query). IsTyped catalog q other) same is.2)) as (λ _. ◌≡◌ {A = Option Typed} None (Some other)) [
      | inl e ↦ cc
      | inr e ↦ cc
    ]
asks_unbuilt catalog text tree fault unbuilt trees typings None is = refl

-- a text without a tree asks nothing
pub asks_no_tree : (catalog : Variables) (text : List ℕ) (fault : ParseFault) → (fault ≡ parse.NoMemory → ⊥)
    → ((q : Query) → HasTree text q → AnswersTree (Err fault) (Ok q))
    → (query : Option Typed) → IsQueryReading catalog text query → None ≡ query
asks_no_tree catalog text fault memory trees (Some other) is =
    elim (trees is.0 is.1) as (λ _. ◌≡◌ {A = Option Typed} None (Some other)) [
      | inl e ↦ cc
      | inr e ↦ absurd (memory (cc))
    ]
asks_no_tree catalog text fault memory trees None is = refl
