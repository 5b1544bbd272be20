-- The turns of a loop that gathers values while the next token passes a test.
use Rattle.std.proofs.Common.{◌≡◌, ◌∙◌, ap, refl, ℕ, zero, suc, ◌+◌, ◌-◌, ◌<◌, ◌≤◌, Bool, true, false, List, [], ◌∷◌, ◌++◌, Ok, Err}
use Rattle.ft_grammar.specs.declared.token.Kind.{Kind}
use Rattle.ft_grammar.specs.declared.token.Token.{Token}
use Rattle.ft_grammar.specs.declared.fault.SyntaxFault.{SyntaxFault}
use Rattle.ft_grammar.specs.Reading.{Outcome, Parser, and_then, kind_of, more_from}
use Rattle.ft_common.proofs.Turns.{one_more, no_more}

one_turn : {A : Type 0} (test : Kind → Bool) (one : Parser A) (n : ℕ) (found : List A) (ts : List Token) → test (kind_of ts) ≡ true
    → more_from test one (suc n) found ts ≡ and_then (one ts) (λ a. more_from test one n (found ++ a ∷ []))
unfolding more_from
one_turn test one n found ts h = rw h refl

no_turn : {A : Type 0} (test : Kind → Bool) (one : Parser A) (n : ℕ) (found : List A) (ts : List Token) → test (kind_of ts) ≡ false
    → more_from test one n found ts ≡ Ok (found, ts)
unfolding more_from
no_turn test one zero found ts h = refl
no_turn test one (suc n) found ts h = rw h refl

at_zero : {A : Type 0} (test : Kind → Bool) (one : Parser A) (found : List A) (ts : List Token) → more_from test one 0 found ts ≡ Ok (found, ts)
unfolding more_from
at_zero test one found ts = refl

-- the next token does not pass
pub more_stops : {A : Type 0} {x : Outcome (List A)} (test : Kind → Bool) (one : Parser A) (n : ℕ) (found : List A) (ts : List Token)
    → x ≡ more_from test one n found ts → test (kind_of ts) ≡ false → x ≡ Ok (found, ts)
more_stops test one n found ts h other = h ∙ no_turn test one n found ts other

-- all turns are done
pub more_ends : {A : Type 0} {x : Outcome (List A)} (test : Kind → Bool) (one : Parser A) (n at : ℕ) (found : List A) (ts : List Token)
    → x ≡ more_from test one (n - at) found ts → n ≤ at → x ≡ Ok (found, ts)
more_ends test one n at found ts h done = no_more (λ n. more_from test one n found ts) n at done h ∙ at_zero test one found ts

-- one more value
pub more_goes : {A : Type 0} {x : Outcome (List A)} (test : Kind → Bool) (one : Parser A) (n at : ℕ) (found : List A) (ts rest : List Token) (a : A)
    → x ≡ more_from test one (n - at) found ts → at < n → test (kind_of ts) ≡ true → one ts ≡ Ok (a, rest)
    → x ≡ more_from test one (n - (at + 1)) (found ++ a ∷ []) rest
more_goes test one n at found ts rest a h below passes got =
    one_more (λ n. more_from test one n found ts) n at below h ∙ one_turn test one (n - (at + 1)) found ts passes
    ∙ ap (λ o. and_then o (λ a. more_from test one (n - (at + 1)) (found ++ a ∷ []))) got

-- a value is refused
pub more_fails : {A : Type 0} {x : Outcome (List A)} (test : Kind → Bool) (one : Parser A) (n at : ℕ) (found : List A) (ts : List Token) (e : SyntaxFault) (rest : List Token)
    → x ≡ more_from test one (n - at) found ts → at < n → test (kind_of ts) ≡ true → one ts ≡ Err (e, rest) → x ≡ Err (e, rest)
more_fails test one n at found ts e rest h below passes got =
    one_more (λ n. more_from test one n found ts) n at below h ∙ one_turn test one (n - (at + 1)) found ts passes
    ∙ ap (λ o. and_then o (λ a. more_from test one (n - (at + 1)) (found ++ a ∷ []))) got
