-- The test that two types are the same.
use Rattle.std.proofs.Common.{◌≡◌, ◌∙◌, sym, ap, ap₂, refl, true, false, ◌&&◌, Bool}
use Rattle.std.proofs.lemmas.Bool.{and_parts}
use Rattle.ft_meaning.specs.Trees.{ValueType, judgement, boundary, unit, bool, pair, list, option}
use Rattle.ft_meaning.specs.Typing.{same_type}

pub same_self : (A : ValueType) → same_type A A ≡ true
same_self judgement = refl
same_self boundary = refl
same_self unit = refl
same_self bool = refl
same_self (pair A B) = ap₂ (λ a b. a && b) (same_self A) (same_self B)
same_self (list A) = same_self A
same_self (option A) = same_self A

pub same_exact : (A B : ValueType) → same_type A B ≡ true → A ≡ B
same_exact judgement judgement h = refl
same_exact judgement boundary h = cc
same_exact judgement unit h = cc
same_exact judgement bool h = cc
same_exact judgement (pair C D) h = cc
same_exact judgement (list C) h = cc
same_exact judgement (option C) h = cc
same_exact boundary judgement h = cc
same_exact boundary boundary h = refl
same_exact boundary unit h = cc
same_exact boundary bool h = cc
same_exact boundary (pair C D) h = cc
same_exact boundary (list C) h = cc
same_exact boundary (option C) h = cc
same_exact unit judgement h = cc
same_exact unit boundary h = cc
same_exact unit unit h = refl
same_exact unit bool h = cc
same_exact unit (pair C D) h = cc
same_exact unit (list C) h = cc
same_exact unit (option C) h = cc
same_exact bool judgement h = cc
same_exact bool boundary h = cc
same_exact bool unit h = cc
same_exact bool bool h = refl
same_exact bool (pair C D) h = cc
same_exact bool (list C) h = cc
same_exact bool (option C) h = cc
same_exact (pair A B) judgement h = cc
same_exact (pair A B) boundary h = cc
same_exact (pair A B) unit h = cc
same_exact (pair A B) bool h = cc
same_exact (pair A B) (pair C D) h = let parts = and_parts (same_type A C) (same_type B D) h in ap₂ pair (same_exact A C parts.0) (same_exact B D parts.1)
same_exact (pair A B) (list C) h = cc
same_exact (pair A B) (option C) h = cc
same_exact (list A) judgement h = cc
same_exact (list A) boundary h = cc
same_exact (list A) unit h = cc
same_exact (list A) bool h = cc
same_exact (list A) (pair C D) h = cc
same_exact (list A) (list C) h = ap list (same_exact A C h)
same_exact (list A) (option C) h = cc
same_exact (option A) judgement h = cc
same_exact (option A) boundary h = cc
same_exact (option A) unit h = cc
same_exact (option A) bool h = cc
same_exact (option A) (pair C D) h = cc
same_exact (option A) (list C) h = cc
same_exact (option A) (option C) h = ap option (same_exact A C h)

-- a test that holds exactly where they are the same
pub same_by : (A B : ValueType) (b : Bool) → (b ≡ true → A ≡ B) → (A ≡ B → b ≡ true) → b ≡ same_type A B
same_by A B true h k = sym (ap (same_type A) (sym (h refl)) ∙ same_self A)
same_by A B false h k = go (same_type A B) (same_exact A B)
  where
    go : (c : Bool) → (c ≡ true → A ≡ B) → false ≡ c
    go true f = k (f refl)
    go false f = refl
