-- Where more nesting is allowed, the same is read, or refused, but for parts that were nested too deeply.
use Rattle.std.proofs.Common.{◌≡◌, ap, refl, subst, ℕ, zero, suc, ◌≤◌, Bool, true, false, if◌then◌else◌, ◌&&◌, List, [], ◌∷◌, ◌++◌, length, drop, Ok, Err, ◌⊎◌, inl, inr, arith}
use Rattle.ft_grammar.specs.declared.token.Kind.{Kind}
use Rattle.ft_grammar.specs.declared.token.Token.{Token}
use Rattle.ft_grammar.specs.declared.fault.SyntaxFault.{SyntaxFault}
use Rattle.ft_grammar.specs.declared.fault.SyntaxFault.TheVariants.{Unexpected, TooNested, Memory}
use Rattle.ft_grammar.specs.Rules.{Rule, Part, Tree, give, name, number, word, mark, part, starting, sequence, either, either_by_two, unless, more}
use Rattle.ft_grammar.specs.Grammar.{rule_of}
use Rattle.ft_grammar.specs.Reading.{Outcome, Parser, and_then, read, more_from, start_of, kind_of, refuse, level}

abbrev pub IsTooNested : SyntaxFault → Type 0
IsTooNested (TooNested n) = Unit {0}
IsTooNested (Unexpected n) = ⊥
IsTooNested Memory = ⊥

abbrev pub Nested : {A : Type 0} → Outcome A → Type 0
Nested (Ok p) = ⊥
Nested (Err e) = IsTooNested e.0

abbrev pub Agree : {A : Type 0} → Outcome A → Outcome A → Type 0
Agree o p = (o ≡ p) ⊎ Nested o

then_agree : {A B : Type 0} (o p : Outcome B) (j k : B → Parser A) → Agree o p → ((b : B) (mid : List Token) → Agree (j b mid) (k b mid)) → Agree (and_then o j) (and_then p k)
then_agree (Err e) p j k (inl h) g = inl (ap (λ o. and_then o k) h)
then_agree (Err e) p j k (inr h) g = inr h
then_agree (Ok q) p j k (inl h) g = subst (λ o. Agree (j q.0 q.1) (and_then o k)) h (g q.0 q.1)
then_agree (Ok q) p j k (inr h) g = absurd h

choice_agree : {A : Type 0} (b : Bool) (o p u v : Outcome A) → Agree o p → Agree u v → Agree (if b then o else u) (if b then p else v)
choice_agree true o p u v h g = h
choice_agree false o p u v h g = g

more_agree : {A : Type 0} (test : Kind → Bool) (one other : Parser A) → ((ts : List Token) → Agree (one ts) (other ts)) → (n : ℕ) (found : List A) (ts : List Token)
    → Agree (more_from test one n found ts) (more_from test other n found ts)
unfolding more_from
more_agree test one other each zero found ts = inl refl
more_agree test one other each (suc n) found ts =
    choice_agree (test (kind_of ts)) (and_then (one ts) (λ a. more_from test one n (found ++ a ∷ []))) (and_then (other ts) (λ a. more_from test other n (found ++ a ∷ [])))
    (Ok (found, ts)) (Ok (found, ts))
    (then_agree (one ts) (other ts) (λ a. more_from test one n (found ++ a ∷ [])) (λ a. more_from test other n (found ++ a ∷ [])) (each ts)
    (λ a mid. more_agree test one other each n (found ++ a ∷ []) mid)) (inl refl)

module _ (parts deep : (p : Part) → Parser (Tree p)) where
  pub agree : ((p : Part) (ts : List Token) → Agree (parts p ts) (deep p ts)) → {A : Type 0} (r : Rule A) (ts : List Token) → Agree (read parts r ts) (read deep r ts)
  agree each (give a) ts = inl refl
  agree each name ts = inl refl
  agree each number ts = inl refl
  agree each (word value) ts = inl refl
  agree each (mark m) ts = inl refl
  agree each (part p) ts = each p ts
  agree each (starting f) ts = agree each (f (start_of ts)) ts
  agree each (sequence r f) ts =
      then_agree (read parts r ts) (read deep r ts) (λ b. read parts (f b)) (λ b. read deep (f b)) (agree each r ts) (λ b mid. agree each (f b) mid)
  agree each (either test r s) ts =
      choice_agree (test (kind_of ts)) (read parts r ts) (read deep r ts) (read parts s ts) (read deep s ts) (agree each r ts) (agree each s ts)
  agree each (either_by_two one two r s) ts =
      choice_agree (one (kind_of ts) && two (kind_of (drop 1 ts))) (read parts r ts) (read deep r ts) (read parts s ts) (read deep s ts) (agree each r ts) (agree each s ts)
  agree each (unless test r) ts =
      choice_agree (test (kind_of ts)) (refuse ts) (refuse ts) (read parts r ts) (read deep r ts) (inl refl) (agree each r ts)
  agree each (more found test r) ts = more_agree test (read parts r) (read deep r) (agree each r) (length ts) found ts

pub levels_agree : (d e : ℕ) → d ≤ e → (p : Part) (ts : List Token) → Agree (level d p ts) (level e p ts)
unfolding level
levels_agree zero e h p ts = inr tt
levels_agree (suc d) zero h p ts = absurd (omega (arith, h))
levels_agree (suc d) (suc e) h p ts = agree (level d) (level e) (levels_agree d e (omega (arith, h))) (rule_of p) ts
