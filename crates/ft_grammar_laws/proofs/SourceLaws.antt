-- How sources are read.
use Rattle.std.proofs.Common.{◌≡◌, ◌∙◌, sym, ap, refl, subst, ℕ, zero, suc, ◌≤◌, Bool, true, false, if◌then◌else◌, IsTrue, List, [], ◌∷◌, ◌++◌, length, Ok, Err, Result, Option, Some, ◌⊎◌, inl, inr, arith}
use Rattle.ft_common.proofs.Booleans.{false_true}
use Rattle.ft_common.proofs.Options.{none_some}
use Rattle.ft_base.specs.declared.word.Word.{Word}
use Rattle.ft_grammar.specs.declared.token.Kind.{Kind}
use Rattle.ft_grammar.specs.declared.token.Kind.TheVariants as kind
use Rattle.ft_grammar.specs.declared.token.Token.{Token}
use Rattle.ft_grammar.specs.declared.token.Mark.{Mark}
use Rattle.ft_grammar.specs.declared.fault.SyntaxFault.{SyntaxFault}
use Rattle.ft_grammar.specs.declared.syntax.Named.{Named}
use Rattle.ft_grammar.specs.declared.syntax.Command.{Command}
use Rattle.ft_grammar.specs.Rules.{Rule, Part, Tree, AllOf, Is, give, name, number, word, mark, part, starting, sequence, either, either_by_two, unless, more, named, numbered, worded, is_mark, expression}
use Rattle.ft_grammar.specs.Forms.{is_no_end}
use Rattle.ft_grammar.specs.Grammar.{IsPart, IsSource, commands, any_command, rule_command, let_command, operation_command, computation_command, extensionality_command, show_command, rule_of}
use Rattle.ft_grammar.specs.Sources.{IsClosed}
use Rattle.ft_grammar.specs.Reading.{Outcome, Parser, read, level, and_then, more_from, kind_of, answer}
use Rattle.ft_grammar_laws.proofs.Cases.{bind_ok, ok_rest, some_first}
use Rattle.ft_grammar_laws.proofs.Follow.{begins, follows, is_end}
use Rattle.ft_grammar_laws.proofs.Sound.{sound, eaten, eats}
use Rattle.ft_grammar_laws.proofs.Complete.{back}
use Rattle.ft_grammar_laws.proofs.ProperRules.{proper_commands, proper_any_command}
use Rattle.ft_grammar_laws.proofs.UniformRules.{uniform_commands}
use Rattle.ft_grammar_laws.proofs.BodyRules.{fits_commands}
use Rattle.ft_grammar_laws.proofs.Levels.{parts_eat, parts_sound, parts_begin, parts_back}

-- ---- what is in the grammar is read
pub commands_back : (d : ℕ) (cs : List Command) (xs rest : List Token) → Is (IsPart d) commands cs xs → is_end (kind_of rest) ≡ true
    → read (level d) commands (xs ++ rest) ≡ Ok (cs, rest)
commands_back d cs xs rest h next =
    back begins follows (IsPart d) (level d) (parts_eat d) (parts_begin d) (parts_back d) commands is_end uniform_commands
    (fits_commands d (parts_back d expression)) cs xs rest h next

end_is_end : (t : Token) → t.kind ≡ kind.End → is_end t.kind ≡ true
unfolding is_no_end
end_is_end t e = ap is_end e

pub source_is_read_at : (d : ℕ) (cs : List Command) (ts : List Token) → IsSource d cs ts → (rest : List Token) × (read (level d) commands ts ≡ Ok (cs, rest))
source_is_read_at d cs ts h =
    (h.1 ∷ [], ap (λ us. read (level d) commands us) h.2 ∙ commands_back d cs h.0 (h.1 ∷ []) h.4 (end_is_end h.1 h.3))

-- ---- what is read is in the grammar
-- no token of the list is the end
abbrev pub NoEnd : List Token → Type 0
NoEnd [] = Unit {0}
NoEnd (t ∷ ts) = (is_no_end t.kind ≡ true) × NoEnd ts

no_end_append : (xs ys : List Token) → NoEnd xs → NoEnd ys → NoEnd (xs ++ ys)
no_end_append [] ys h g = g
no_end_append (x ∷ xs) ys h g = (h.0, no_end_append xs ys h.1 g)

named_no_end : (at : ℕ) (k : Kind) (a : Named) → named at k ≡ Some a → is_no_end k ≡ true
unfolding is_no_end
named_no_end at (kind.Name n) a h = refl
named_no_end at (kind.Number n) a h = refl
named_no_end at (kind.Word v) a h = refl
named_no_end at (kind.Mark m) a h = refl
named_no_end at kind.Bad a h = refl
named_no_end at kind.End a h = absurd (none_some h)

numbered_no_end : (k : Kind) (a : ℕ) → numbered k ≡ Some a → is_no_end k ≡ true
unfolding is_no_end
numbered_no_end (kind.Name n) a h = refl
numbered_no_end (kind.Number n) a h = refl
numbered_no_end (kind.Word v) a h = refl
numbered_no_end (kind.Mark m) a h = refl
numbered_no_end kind.Bad a h = refl
numbered_no_end kind.End a h = absurd (none_some h)

worded_no_end : {A : Type 0} (value : Word → Option A) (k : Kind) (a : A) → worded value k ≡ Some a → is_no_end k ≡ true
unfolding is_no_end
worded_no_end value (kind.Name n) a h = refl
worded_no_end value (kind.Number n) a h = refl
worded_no_end value (kind.Word v) a h = refl
worded_no_end value (kind.Mark m) a h = refl
worded_no_end value kind.Bad a h = refl
worded_no_end value kind.End a h = absurd (none_some h)

mark_no_end : (m : Mark) (k : Kind) → is_mark m k ≡ true → is_no_end k ≡ true
unfolding is_no_end is_mark
mark_no_end m (kind.Name n) h = refl
mark_no_end m (kind.Number n) h = refl
mark_no_end m (kind.Word v) h = refl
mark_no_end m (kind.Mark v) h = refl
mark_no_end m kind.Bad h = refl
mark_no_end m kind.End h = absurd (false_true h)

module _ (R : (p : Part) → Tree p → List Token → Type 0) where
  one_no_end : (xs : List Token) (t : Token) → xs ≡ t ∷ [] → is_no_end t.kind ≡ true → NoEnd xs
  one_no_end xs t e h = subst NoEnd (sym e) (h, tt)

  all_no_end : {A : Type 0} (P : A → List Token → Type 0) → ((a : A) (xs : List Token) → P a xs → NoEnd xs) → (bs : List A) (xs : List Token)
      → AllOf P bs xs → NoEnd xs
  all_no_end P one [] xs h = subst NoEnd (sym h) tt
  all_no_end P one (b ∷ bs) xs h = subst NoEnd (sym h.2) (no_end_append h.0 h.1 (one b h.0 h.3) (all_no_end P one bs h.1 h.4))

  pub no_end : ((p : Part) (a : Tree p) (xs : List Token) → R p a xs → NoEnd xs) → {A : Type 0} (r : Rule A) (a : A) (xs : List Token) → Is R r a xs → NoEnd xs
  no_end parts (give b) a xs h = subst NoEnd (sym h.1) tt
  no_end parts name a xs h = one_no_end xs h.0 h.1 (named_no_end h.0.start h.0.kind a h.2)
  no_end parts number a xs h = one_no_end xs h.0 h.1 (numbered_no_end h.0.kind a h.2)
  no_end parts (word value) a xs h = one_no_end xs h.0 h.1 (worded_no_end value h.0.kind a h.2)
  no_end parts (mark m) a xs h = one_no_end xs h.0 h.1 (mark_no_end m h.0.kind h.2)
  no_end parts (part p) a xs h = parts p a xs h
  no_end parts (starting f) a xs h = no_end parts (f h.0.start) a xs h.3
  no_end parts (sequence r f) a xs h = subst NoEnd (sym h.3) (no_end_append h.1 h.2 (no_end parts r h.0 h.1 h.4) (no_end parts (f h.0) a h.2 h.5))
  no_end parts (either test r s) a xs (inl h) = no_end parts r a xs h
  no_end parts (either test r s) a xs (inr h) = no_end parts s a xs h
  no_end parts (either_by_two first second r s) a xs (inl h) = no_end parts r a xs h
  no_end parts (either_by_two first second r s) a xs (inr h) = no_end parts s a xs h
  no_end parts (unless test r) a xs h = no_end parts r a xs h.4
  no_end parts (more found test r) a xs h = all_no_end (Is R r) (no_end parts r) h.0 xs h.2

pub part_no_end : (d : ℕ) (p : Part) (a : Tree p) (xs : List Token) → IsPart d p a xs → NoEnd xs
unfolding IsPart
part_no_end zero p a xs h = absurd h
part_no_end (suc d) p a xs h = no_end (IsPart d) (part_no_end d) (rule_of p) a xs h

-- commands are read up to the end
stops : {A : Type 0} (one : Parser A) → ((ts : List Token) (a : A) (rest : List Token) → one ts ≡ Ok (a, rest) → suc (length rest) ≤ length ts)
    → (n : ℕ) (found : List A) (ts : List Token) (given : List A) (rest : List Token) → length ts ≤ n
    → more_from is_no_end one n found ts ≡ Ok (given, rest) → is_no_end (kind_of rest) ≡ false
unfolding more_from is_no_end
stops one less zero found [] given rest few h = ap (λ us. is_no_end (kind_of us)) (sym (ok_rest h))
stops one less zero found (t ∷ ts) given rest few h =
    let l : length (t ∷ ts) ≡ suc (length ts) = refl in
    absurd (omega (arith, few, l))
stops {A = A} one less (suc n) found ts given rest few h = by_test (is_or_not (is_no_end (kind_of ts))) (stops one less n)
  where
    is_or_not : (b : Bool) → (b ≡ true) ⊎ (b ≡ false)
    is_or_not true = inl refl
    is_or_not false = inr refl

    by_test : (is_no_end (kind_of ts) ≡ true) ⊎ (is_no_end (kind_of ts) ≡ false)
        → ((sofar : List A) (us : List Token) (given : List A) (rest : List Token) → length us ≤ n → more_from is_no_end one n sofar us ≡ Ok (given, rest) → is_no_end (kind_of rest) ≡ false)
        → is_no_end (kind_of rest) ≡ false
    by_test (inr e) others =
        let g = sym (ap (λ b. if b then and_then (one ts) (λ a. more_from is_no_end one n (found ++ a ∷ [])) else Ok (found, ts)) e) ∙ h in
        ap (λ us. is_no_end (kind_of us)) (sym (ok_rest g)) ∙ e
    by_test (inl e) others =
        let g = sym (ap (λ b. if b then and_then (one ts) (λ a. more_from is_no_end one n (found ++ a ∷ [])) else Ok (found, ts)) e) ∙ h in
        let o = bind_ok (one ts) (λ a. more_from is_no_end one n (found ++ a ∷ [])) given rest g in
        let fewer : length o.1 ≤ n = omega (arith, less ts o.0 o.1 o.2, few) in
        others (found ++ o.0 ∷ []) o.1 given rest fewer o.3

eats_command : IsTrue (eats any_command)
unfolding any_command rule_command let_command operation_command computation_command extensionality_command show_command
eats_command = refl

command_less : (d : ℕ) (ts : List Token) (a : Command) (rest : List Token) → read (level d) any_command ts ≡ Ok (a, rest) → suc (length rest) ≤ length ts
command_less d ts a rest h =
    let got = sound (IsPart d) (level d) (parts_eat d) (parts_sound d) any_command proper_any_command ts a rest h in
    subst (λ us. suc (length rest) ≤ length us) (sym got.1)
    (some_first got.0 (eaten (IsPart d) (parts_eat d) any_command a got.0 eats_command got.2) rest)

closed_rest : (xs rest : List Token) → NoEnd xs → is_no_end (kind_of rest) ≡ false → IsClosed (xs ++ rest) → (t : Token) × (rest ≡ t ∷ []) × (t.kind ≡ kind.End)
unfolding is_no_end
closed_rest [] [] none stop closed = absurd closed
closed_rest [] (t ∷ []) none stop closed = (t, refl, closed)
closed_rest [] (t ∷ u ∷ us) none stop closed = absurd (false_true (sym stop ∙ closed.0))
closed_rest (x ∷ []) [] none stop closed = absurd (false_true (sym (ap is_no_end closed) ∙ none.0))
closed_rest (x ∷ []) (t ∷ us) none stop closed = closed_rest [] (t ∷ us) none.1 stop closed.1
closed_rest (x ∷ y ∷ xs) rest none stop closed = closed_rest (y ∷ xs) rest none.1 stop closed.1

value_or : List Command → Result (List Command) SyntaxFault → List Command
value_or d (Ok a) = a
value_or d (Err e) = d

pub answered : (o : Outcome (List Command)) (cs : List Command) → answer o ≡ Ok cs → (rest : List Token) × (o ≡ Ok (cs, rest))
unfolding value_or
answered (Ok p) cs h = (p.1, ap (λ c. Ok (c, p.1)) (ap (value_or []) h))
answered (Err e) cs h = absurd (clash h)
  where
    clash : ◌≡◌ {A = Result (List Command) SyntaxFault} (Err e.0) (Ok cs) → ⊥
    clash h = cc

read_stops : (d : ℕ) (cs : List Command) (ts rest : List Token) → read (level d) commands ts ≡ Ok (cs, rest) → is_no_end (kind_of rest) ≡ false
unfolding commands
read_stops d cs ts rest h = stops (read (level d) any_command) (command_less d) (length ts) [] ts cs rest (omega arith) h

pub read_is_in_grammar : (d : ℕ) (cs : List Command) (ts rest : List Token) → IsClosed ts → read (level d) commands ts ≡ Ok (cs, rest) → IsSource d cs ts
read_is_in_grammar d cs ts rest closed h =
    let got = sound (IsPart d) (level d) (parts_eat d) (parts_sound d) commands proper_commands ts cs rest h in
    let c = closed_rest got.0 rest (no_end (IsPart d) (part_no_end d) commands cs got.0 got.2) (read_stops d cs ts rest h) (subst IsClosed got.1 closed) in
    (got.0, c.0, got.1 ∙ ap (λ us. got.0 ++ us) c.1, c.2, got.2)
