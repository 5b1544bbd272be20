-- The tokens before one that is refused begin a source.
use Rattle.std.proofs.Common.{◌≡◌, sym, refl, ℕ, zero, suc, List, [], ◌∷◌, ◌++◌, Err, append_assoc}
use Rattle.ft_grammar.specs.declared.token.Kind.TheVariants as kind
use Rattle.ft_grammar.specs.declared.token.Token.{Token}
use Rattle.ft_grammar.specs.declared.fault.SyntaxFault.{SyntaxFault}
use Rattle.ft_grammar.specs.Rules.{Part, Tree, Is}
use Rattle.ft_grammar.specs.Grammar.{rule_of, IsPart, commands}
use Rattle.ft_grammar.specs.Reading.{read, level}
use Rattle.ft_grammar.specs.Sources.{CanGoOn}
use Rattle.ft_grammar_laws.proofs.Cases.{same_left}
use Rattle.ft_grammar_laws.proofs.SourceLaws.{NoEnd, no_end, part_no_end}
use Rattle.ft_grammar_laws.proofs.Sound.{IsSound}
use Rattle.ft_grammar_laws.proofs.ProperRules.{proper_part, proper_commands}
use Rattle.ft_grammar_laws.proofs.Levels.{parts_eat, parts_sound}
use Rattle.ft_grammar_laws.proofs.Completions.{at_zero, Sample, CanComplete, Completed, complete, grow}
use Rattle.ft_grammar_laws.proofs.SampleRules.{part_sample, sampled_part, sampled_commands}

pub part_grows : (d : ℕ) (p : Part) (a : Tree p) (xs : List Token) → IsPart d p a xs → IsPart (suc d) p a xs
unfolding IsPart
part_grows zero p a xs h = absurd h
part_grows (suc d) p a xs h = grow (IsPart d) (IsPart (suc d)) (part_grows d) (rule_of p) a xs h

samples : (d : ℕ) (p : Part) → Sample (IsPart (suc d)) (λ a. IsPart (suc d) p a)
unfolding IsPart
samples d p = part_sample (IsPart d) p

sounds : (d : ℕ) (p : Part) → IsSound (IsPart (suc d)) (level d p) (λ a. IsPart (suc d) p a)
sounds d p ts a rest h = let got = parts_sound d p ts a rest h in (got.0, got.1, part_grows d p a got.0 got.2)

parts_complete : (d : ℕ) (p : Part) → CanComplete (IsPart (suc d)) (level d p) (λ a. IsPart (suc d) p a)
unfolding IsPart level
parts_complete zero p ts left n h = let s = part_sample (IsPart 0) p in ([], same_left h, s.1, s.0, s.3)
parts_complete (suc d) p ts left n h =
    complete (IsPart (suc d)) (level d) (parts_eat (suc d)) (samples d) (sounds d) (parts_complete d) (rule_of p) (proper_part p) (sampled_part (IsPart (suc d)) p) ts left n h

-- the tokens before those that are left can go on, and have no end among them
abbrev pub IsBegun : List Token → List Token → Type 0
IsBegun ts left = (xs : List Token) × (ts ≡ xs ++ left) × (ys : List Token) × NoEnd (xs ++ ys)

completed : (d : ℕ) (n : SyntaxFault) (ts left : List Token) → read (level d) commands ts ≡ Err (n, left) → Completed (IsPart (suc d)) (λ a. Is (IsPart (suc d)) commands a) ts left
completed d n ts left h =
    complete (IsPart (suc d)) (level d) (parts_eat (suc d)) (samples d) (sounds d) (parts_complete d) commands proper_commands (sampled_commands (IsPart (suc d))) ts left n h

pub refusal_is_begun : (d : ℕ) (n : SyntaxFault) (ts left : List Token) → read (level d) commands ts ≡ Err (n, left) → IsBegun ts left
refusal_is_begun d n ts left h =
    let c = completed d n ts left h in
    (c.0, c.1, c.2, no_end (IsPart (suc d)) (part_no_end (suc d)) commands c.3 (c.0 ++ c.2) c.4)

pub refusal_is_continued : (d : ℕ) (n : SyntaxFault) (ts left : List Token) → read (level d) commands ts ≡ Err (n, left)
    → (xs : List Token) × (ts ≡ xs ++ left) × CanGoOn xs
refusal_is_continued d n ts left h =
    let c = completed d n ts left h in
    let end = at_zero kind.End in
    (c.0, c.1, (c.2 ++ end ∷ [], suc d, c.3, (c.0 ++ c.2, end, sym (append_assoc c.0 c.2 (end ∷ [])), refl, c.4)))
