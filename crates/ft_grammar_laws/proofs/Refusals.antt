-- What is refused, and what may follow it.
use Rattle.std.proofs.Common.{◌≡◌, ◌∙◌, sym, ap, refl, subst, ℕ, zero, suc, ◌≤◌, ◌⊎◌, inl, inr, arith, append_assoc, append-nil, length, List, [], ◌∷◌, ◌++◌, Ok, Err, Result}
use Rattle.ft_common.proofs.Booleans.{false_true}
use Rattle.ft_grammar.specs.declared.token.Token.{Token}
use Rattle.ft_grammar.specs.declared.fault.SyntaxFault.{SyntaxFault}
use Rattle.ft_grammar.specs.declared.syntax.Command.{Command}
use Rattle.ft_grammar.specs.Grammar.{IsSource, commands, nesting}
use Rattle.ft_grammar.specs.Reading.{Outcome, read, level, start_of, answer, parse}
use Rattle.ft_grammar.specs.Sources.{IsClosed, HasNoSource, IsFirstUnexpected, IsTooNested}
use Rattle.ft_grammar.specs.Forms.{is_no_end}
use Rattle.ft_grammar.specs.declared.fault.SyntaxFault.TheVariants.{Unexpected, TooNested, Memory}
use Rattle.ft_grammar_laws.proofs.FaultNames.{Names, NamesNext, names_next, level_names}
use Rattle.ft_grammar_laws.proofs.Continued.{refusal_is_begun, refusal_is_continued}
use Rattle.ft_grammar_laws.proofs.SourceLaws.{NoEnd, source_is_read_at}
use Rattle.std.proofs.lemmas.List.{length-append}
use Rattle.ft_grammar_laws.proofs.Local.{StopsAt}
use Rattle.ft_grammar_laws.proofs.Deeper.{Agree, Nested, agree, levels_agree}
use Rattle.ft_grammar_laws.proofs.LookRules.{commands_local}

clash : {A : Type 0} (e : SyntaxFault × List Token) (p : A × List Token) → ◌≡◌ {A = Outcome A} (Ok p) (Err e) → ⊥
clash e p h = cc

-- the order of two depths
ordered : (d e : ℕ) → (d ≤ e) ⊎ (e ≤ d)
ordered zero e = inl (omega arith)
ordered (suc d) zero = inr (omega arith)
ordered (suc d) (suc e) = by_order (ordered d e)
  where
    by_order : (d ≤ e) ⊎ (e ≤ d) → (suc d ≤ suc e) ⊎ (suc e ≤ suc d)
    by_order (inl h) = inl (omega (arith, h))
    by_order (inr h) = inr (omega (arith, h))

no_ok : {A : Type 0} (o p : Outcome A) (q : A × List Token) (e : SyntaxFault × List Token) → Agree o p → o ≡ Ok q → p ≡ Err e → ⊥
no_ok {A = A} o p q e (inl h) is fails = clash e q (sym is ∙ h ∙ fails)
no_ok {A = A} o p q e (inr h) is fails = subst (λ x. Nested x) is h

no_unexpected : {A : Type 0} (o p : Outcome A) (q : A × List Token) (n : ℕ) (left : List Token) → Agree o p → o ≡ Err (Unexpected n, left) → p ≡ Ok q → ⊥
no_unexpected o p q n left (inl h) fails is = clash (Unexpected n, left) q (sym is ∙ sym h ∙ fails)
no_unexpected o p q n left (inr h) fails is = subst (λ x. Nested x) fails h

cancel : (xs ys left : List Token) → xs ++ left ≡ ys ++ left → xs ≡ ys
cancel [] [] left e = refl
cancel [] (y ∷ ys) left e =
    let l : length left ≡ length (y ∷ (ys ++ left)) = ap length e in
    let m : length (y ∷ (ys ++ left)) ≡ suc (length (ys ++ left)) = refl in
    absurd (omega (arith, l, m, length-append ys left))
cancel (x ∷ xs) [] left e =
    let l : length (x ∷ (xs ++ left)) ≡ length left = ap length e in
    let m : length (x ∷ (xs ++ left)) ≡ suc (length (xs ++ left)) = refl in
    absurd (omega (arith, l, m, length-append xs left))
cancel (x ∷ xs) (y ∷ ys) left e = cons (head e) (cancel xs ys left (tail e))
  where
    head : x ∷ (xs ++ left) ≡ y ∷ (ys ++ left) → x ≡ y
    head e = cc

    tail : x ∷ (xs ++ left) ≡ y ∷ (ys ++ left) → xs ++ left ≡ ys ++ left
    tail e = cc

    cons : x ≡ y → xs ≡ ys → x ∷ xs ≡ y ∷ ys
    cons h g = cc

-- by all that follow one token, to all that follow a list
regroup : (xs : List Token) (t : Token) (rest : List Token) → (xs ++ t ∷ []) ++ rest ≡ xs ++ t ∷ rest
regroup xs t rest = append_assoc xs (t ∷ []) rest

closed_has_end : (ts ys : List Token) → IsClosed ts → NoEnd (ts ++ ys) → ⊥
unfolding is_no_end
closed_has_end [] ys closed none = closed
closed_has_end (t ∷ []) ys closed none = false_true (sym (ap is_no_end closed) ∙ none.0)
closed_has_end (t ∷ u ∷ ts) ys closed none = closed_has_end (u ∷ ts) ys closed.1 none.1

no_source_after : (d : ℕ) (fault : SyntaxFault) (ts left : List Token) (t : Token) (h : read (level (suc d)) commands ts ≡ Err (fault, t ∷ left)) (xs : List Token) → ts ≡ xs ++ t ∷ left
    → HasNoSource (suc d) (xs ++ t ∷ [])
no_source_after d fault ts left t h xs e cs rest g =
    let stop = subst (λ o. StopsAt (read (level (suc d)) commands) ts o) h (commands_local d ts) in
    let same : stop.0 ≡ xs = cancel stop.0 xs (t ∷ left) (sym stop.1 ∙ e) in
    let r = source_is_read_at (suc d) cs (xs ++ t ∷ rest) (subst (λ us. IsSource (suc d) cs us) (regroup xs t rest) g) in
    clash (fault, t ∷ rest) (cs, r.0) (sym r.1 ∙ ap (λ ws. read (level (suc d)) commands (ws ++ t ∷ rest)) (sym same) ∙ stop.2 (t ∷ rest) refl)

no_source_at_all : (d n : ℕ) (ts left : List Token) (t : Token) (h : read (level (suc d)) commands ts ≡ Err (Unexpected n, t ∷ left)) (xs : List Token) → ts ≡ xs ++ t ∷ left
    → (e : ℕ) → HasNoSource e (xs ++ t ∷ [])
no_source_at_all d n ts left t h xs is e cs rest g =
    let stop = subst (λ o. StopsAt (read (level (suc d)) commands) ts o) h (commands_local d ts) in
    let same : stop.0 ≡ xs = cancel stop.0 xs (t ∷ left) (sym stop.1 ∙ is) in
    let r = source_is_read_at e cs (xs ++ t ∷ rest) (subst (λ us. IsSource e cs us) (regroup xs t rest) g) in
    by_order r (ap (λ ws. read (level (suc d)) commands (ws ++ t ∷ rest)) (sym same) ∙ stop.2 (t ∷ rest) refl) (ordered e (suc d))
  where
    by_order : ((us : List Token) × (read (level e) commands (xs ++ t ∷ rest) ≡ Ok (cs, us))) → read (level (suc d)) commands (xs ++ t ∷ rest) ≡ Err (Unexpected n, t ∷ rest)
        → (e ≤ suc d) ⊎ (suc d ≤ e) → ⊥
    by_order r fails (inl less) =
        no_ok (read (level e) commands (xs ++ t ∷ rest)) (read (level (suc d)) commands (xs ++ t ∷ rest)) (cs, r.0) (Unexpected n, t ∷ rest)
        (agree (level e) (level (suc d)) (levels_agree e (suc d) less) commands (xs ++ t ∷ rest)) r.1 fails
    by_order r fails (inr less) =
        no_unexpected (read (level (suc d)) commands (xs ++ t ∷ rest)) (read (level e) commands (xs ++ t ∷ rest)) (cs, r.0) n (t ∷ rest)
        (agree (level (suc d)) (level e) (levels_agree (suc d) e less) commands (xs ++ t ∷ rest)) fails r.1

-- what is told of each fault
abbrev Told : ℕ → SyntaxFault → List Token → Type 0
Told d (Unexpected n) ts = IsFirstUnexpected n ts
Told d (TooNested n) ts = IsTooNested d n ts
Told d Memory ts = Unit {0}

place_of : SyntaxFault → ℕ
place_of (Unexpected n) = n
place_of (TooNested n) = n
place_of Memory = 0

place_is : (fault : SyntaxFault) (left : List Token) → Names fault left → place_of fault ≡ start_of left
unfolding place_of
place_is fault left (inl h) = ap place_of h
place_is fault left (inr h) = ap place_of h

told : (d : ℕ) (fault : SyntaxFault) (ts left : List Token) → IsClosed ts → read (level (suc d)) commands ts ≡ Err (fault, left) → Told (suc d) fault ts
unfolding place_of
told d fault ts [] closed h =
    let b = refusal_is_begun (suc d) fault ts [] h in
    absurd (closed_has_end ts b.2 closed (subst (λ us. NoEnd (us ++ b.2)) (sym (b.1 ∙ append-nil b.0)) b.3))
told d (Unexpected n) ts (t ∷ left) closed h =
    let b = refusal_is_continued (suc d) (Unexpected n) ts (t ∷ left) h in
    let named = subst (λ o. NamesNext o) h (names_next (level (suc d)) (level_names (suc d)) commands ts) in
    (b.0, t, left, b.1, place_is (Unexpected n) (t ∷ left) named, b.2, no_source_at_all d n ts left t h b.0 b.1)
told d (TooNested n) ts (t ∷ left) closed h =
    let b = refusal_is_continued (suc d) (TooNested n) ts (t ∷ left) h in
    let named = subst (λ o. NamesNext o) h (names_next (level (suc d)) (level_names (suc d)) commands ts) in
    (b.0, t, left, b.1, place_is (TooNested n) (t ∷ left) named, b.2, no_source_after d (TooNested n) ts left t h b.0 b.1)
told d Memory ts (t ∷ left) closed h = tt

fault_or : SyntaxFault → Result (List Command) SyntaxFault → SyntaxFault
fault_or d (Ok a) = d
fault_or d (Err e) = e

pub refused : (o : Outcome (List Command)) (fault : SyntaxFault) → answer o ≡ Err fault → (left : List Token) × (o ≡ Err (fault, left))
unfolding fault_or
refused (Ok p) fault h = absurd (no_fault h)
  where
    no_fault : ◌≡◌ {A = Result (List Command) SyntaxFault} (Ok p.0) (Err fault) → ⊥
    no_fault h = cc
refused (Err e) fault h = (e.1, ap (λ f. Err (f, e.1)) (ap (fault_or fault) h))

pub unexpected_is_first : (n : ℕ) (ts : List Token) → IsClosed ts → parse ts ≡ Err (Unexpected n) → IsFirstUnexpected n ts
unfolding parse
unexpected_is_first n ts closed h =
    let o = refused (read (level nesting) commands ts) (Unexpected n) h in
    told 199 (Unexpected n) ts o.0 closed o.1

pub too_nested_cannot_go_on : (n : ℕ) (ts : List Token) → IsClosed ts → parse ts ≡ Err (TooNested n) → IsTooNested nesting n ts
unfolding parse
too_nested_cannot_go_on n ts closed h =
    let o = refused (read (level nesting) commands ts) (TooNested n) h in
    told 199 (TooNested n) ts o.0 closed o.1
