-- A fault names the first token that is left.
use Rattle.std.proofs.Common.{◌≡◌, refl, ℕ, zero, suc, Bool, true, false, if◌then◌else◌, ◌&&◌, List, [], ◌∷◌, ◌++◌, length, drop, Ok, Err, Option, Some, None, ◌⊎◌, inl, inr}
use Rattle.ft_grammar.specs.declared.token.Kind.{Kind}
use Rattle.ft_grammar.specs.declared.token.Token.{Token}
use Rattle.ft_grammar.specs.declared.fault.SyntaxFault.{SyntaxFault}
use Rattle.ft_grammar.specs.declared.fault.SyntaxFault.TheVariants.{Unexpected, TooNested}
use Rattle.ft_grammar.specs.Rules.{Rule, Part, Tree, give, name, number, word, mark, part, starting, sequence, either, either_by_two, unless, more, is_mark, named, numbered, worded}
use Rattle.ft_grammar.specs.Grammar.{rule_of}
use Rattle.ft_grammar.specs.Reading.{Outcome, Parser, and_then, read, more_from, start_of, kind_of, read_name, read_number, read_word, read_mark, value_or_refuse, refuse, level}

abbrev pub Names : SyntaxFault → List Token → Type 0
Names fault left = (fault ≡ Unexpected (start_of left)) ⊎ (fault ≡ TooNested (start_of left))

abbrev pub NamesNext : {A : Type 0} → Outcome A → Type 0
NamesNext (Ok p) = Unit {0}
NamesNext (Err e) = Names e.0 e.1

then_names : {A B : Type 0} (o : Outcome B) (k : B → Parser A) → NamesNext o → ((b : B) (mid : List Token) → NamesNext (k b mid)) → NamesNext (and_then o k)
then_names (Ok q) k h g = g q.0 q.1
then_names (Err e) k h g = h

choice_names : {A : Type 0} (b : Bool) (o u : Outcome A) → NamesNext o → NamesNext u → NamesNext (if b then o else u)
choice_names true o u h g = h
choice_names false o u h g = g

value_names : {A : Type 0} (o : Option A) (ts : List Token) → NamesNext (value_or_refuse o ts)
value_names (Some a) ts = tt
value_names None ts = inl refl

more_names : {A : Type 0} (test : Kind → Bool) (one : Parser A) → ((ts : List Token) → NamesNext (one ts)) → (n : ℕ) (found : List A) (ts : List Token) → NamesNext (more_from test one n found ts)
unfolding more_from
more_names test one each zero found ts = tt
more_names test one each (suc n) found ts =
    choice_names (test (kind_of ts)) (and_then (one ts) (λ a. more_from test one n (found ++ a ∷ []))) (Ok (found, ts))
    (then_names (one ts) (λ a. more_from test one n (found ++ a ∷ [])) (each ts) (λ a mid. more_names test one each n (found ++ a ∷ []) mid)) tt

module _ (parts : (p : Part) → Parser (Tree p)) where
  pub names_next : ((p : Part) (ts : List Token) → NamesNext (parts p ts)) → {A : Type 0} (r : Rule A) (ts : List Token) → NamesNext (read parts r ts)
  unfolding read_name read_number read_word read_mark
  names_next each (give a) ts = tt
  names_next each name ts = value_names (named (start_of ts) (kind_of ts)) ts
  names_next each number ts = value_names (numbered (kind_of ts)) ts
  names_next each (word value) ts = value_names (worded value (kind_of ts)) ts
  names_next each (mark m) ts = choice_names (is_mark m (kind_of ts)) (Ok (tt, drop 1 ts)) (refuse ts) tt (inl refl)
  names_next each (part p) ts = each p ts
  names_next each (starting f) ts = names_next each (f (start_of ts)) ts
  names_next each (sequence r f) ts = then_names (read parts r ts) (λ b. read parts (f b)) (names_next each r ts) (λ b mid. names_next each (f b) mid)
  names_next each (either test r s) ts = choice_names (test (kind_of ts)) (read parts r ts) (read parts s ts) (names_next each r ts) (names_next each s ts)
  names_next each (either_by_two one two r s) ts =
      choice_names (one (kind_of ts) && two (kind_of (drop 1 ts))) (read parts r ts) (read parts s ts) (names_next each r ts) (names_next each s ts)
  names_next each (unless test r) ts = choice_names (test (kind_of ts)) (refuse ts) (read parts r ts) (inl refl) (names_next each r ts)
  names_next each (more found test r) ts = more_names test (read parts r) (names_next each r) (length ts) found ts

pub level_names : (d : ℕ) (p : Part) (ts : List Token) → NamesNext (level d p ts)
unfolding level
level_names zero p ts = inr refl
level_names (suc d) p ts = names_next (level d) (level_names d) (rule_of p) ts
