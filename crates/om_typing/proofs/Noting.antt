-- Mistakes that are noted one by one.
use Rattle.std.proofs.Common.{◌≡◌, ◌&&◌, List, [], ◌∷◌, ◌++◌, refl}
use Rattle.om_typing.specs.Judging.{is_empty}
use Rattle.om_typing.specs.Mistakes.{noted, noted_all}
use Rattle.om_typing.specs.declared.mistake.Foremost.{Foremost}
use Rattle.om_typing.specs.declared.mistake.Mistake.{Mistake}

pub noted_append : (found : Foremost) (xs ys : List Mistake) → noted_all found (xs ++ ys) ≡ noted_all (noted_all found xs) ys
noted_append found [] ys = refl
noted_append found (x ∷ xs) ys = noted_append (noted found x) xs ys

pub empty_append : (xs ys : List Mistake) → is_empty (xs ++ ys) ≡ (is_empty xs && is_empty ys)
empty_append [] ys = refl
empty_append (x ∷ xs) ys = refl
