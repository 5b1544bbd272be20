-- The text of an expression, by its node and its arguments.
use Rattle.std.proofs.Common.{◌≡◌, ◌≢◌, ◌∙◌, sym, ap, ap₂, refl, subst, ℕ, zero, suc, ◌+◌, ◌-◌, ◌*◌, ◌^◌, ◌<◌, ◌≤◌, Option, Some, None, List, [], ◌∷◌, ◌++◌, length, map, take, slice_get, codes, decimal, append_assoc, append-nil, arith}
use Rattle.std.proofs.lemmas.List.{take_all}
use Rattle.ft_common.proofs.Options.{none_some}
use Rattle.ft_theory.specs.Expressions.{Expression, bound, free, symbol, meta, Arguments, no_arguments, with_body, dummy, Terms, no_terms, also}
use Rattle.ft_theory.specs.Small.{IsSmall, NumbersFitInArguments}
use Rattle.ft_items.specs.Store.{nth, Declarations}
use Rattle.ft_syntax.specs.Arguments.{Argument, node_of, arguments_of, list_of_arguments, list_of_terms}
use Rattle.ft_syntax.specs.Table.{BodyBelow}
use Rattle.std.specs.Prelude.{IfSome}
use Rattle.ft_syntax.specs.declared.syntax.Node.TheVariants.{Bound, Free, Sym, Meta}
use Rattle.ft_meaning.specs.Texts.{Text, name_if_any, binders_text, metavariable_text, variable_text, expression_text, argument_texts, term_texts, in_parentheses}
use Rattle.ft_print.specs.Arguments.{body_text, argument_text, arguments_text, HasRoom}
use Rattle.ft_print.proofs.Joining.{opened, opened_next, written_more}

-- a measure of what is below an argument
abbrev pub body_measure : Option ℕ → ℕ
body_measure None = 0
body_measure (Some e) = 3 * e + 3

none_more : (n : ℕ) → n + 0 ≡ n
none_more n = omega arith

one_more : (n k : ℕ) → n + suc k ≡ suc n + k
one_more n k = omega arith

symbol_texts : (W : Declarations) (vs : List ℕ) (n : ℕ) (a : Arguments) → map (argument_text W vs n) (list_of_arguments a) ≡ argument_texts W vs n a
symbol_texts W vs n no_arguments = refl
symbol_texts W vs n (with_body k e a) = ap (λ xs. (binders_text n k ++ expression_text W vs (n + k) e) ∷ xs) (symbol_texts W vs n a)
symbol_texts W vs n (dummy k a) = ap (λ xs. (binders_text n k ++ codes "*") ∷ xs) (symbol_texts W vs n a)

meta_texts : (W : Declarations) (vs : List ℕ) (n : ℕ) (a : Terms) → map (argument_text W vs n) (list_of_terms a) ≡ term_texts W vs n a
meta_texts W vs n no_terms = refl
meta_texts W vs n (also t a) = ap₂ (λ m xs. expression_text W vs m t ∷ xs) (none_more n) (meta_texts W vs n a)

pub bound_written : (W : Declarations) (vs : List ℕ) (n : ℕ) (t : Expression) (i : ℕ) → Bound i ≡ node_of t → codes "@" ++ decimal (n - suc i) ≡ expression_text W vs n t
bound_written W vs n (bound j) i e = let same : i ≡ j = cc in ap (λ i. codes "@" ++ decimal (n - suc i)) same
bound_written W vs n (free v) i e = cc
bound_written W vs n (symbol s a) i e = cc
bound_written W vs n (meta m a) i e = cc

pub free_written : (W : Declarations) (vs : List ℕ) (n : ℕ) (t : Expression) (v : ℕ) → Free v ≡ node_of t → variable_text W vs v ≡ expression_text W vs n t
free_written W vs n (bound j) v e = cc
free_written W vs n (free w) v e = let same : v ≡ w = cc in ap (variable_text W vs) same
free_written W vs n (symbol s a) v e = cc
free_written W vs n (meta m a) v e = cc

pub symbol_written : (W : Declarations) (vs : List ℕ) (n : ℕ) (t : Expression) (s : ℕ) (old mid new : Text) → Sym s ≡ node_of t → mid ≡ old ++ name_if_any (nth W.names s)
    → new ≡ mid ++ arguments_text W vs n (arguments_of t) → new ≡ old ++ expression_text W vs n t
symbol_written W vs n (bound i) s old mid new e m g = cc
symbol_written W vs n (free v) s old mid new e m g = cc
symbol_written W vs n (symbol r a) s old mid new e m g =
    let same : s ≡ r = cc in
    let x = name_if_any (nth W.names r) in
    g ∙ ap (λ z. z ++ arguments_text W vs n (list_of_arguments a)) (m ∙ ap (λ s. old ++ name_if_any (nth W.names s)) same)
    ∙ ap (λ xs. old ++ x ++ in_parentheses xs) (symbol_texts W vs n a) ∙ append_assoc old x (in_parentheses (argument_texts W vs n a))
symbol_written W vs n (meta r a) s old mid new e m g = cc

pub meta_written : (W : Declarations) (vs : List ℕ) (n : ℕ) (t : Expression) (s : ℕ) (old mid new : Text) → Meta s ≡ node_of t → mid ≡ old ++ metavariable_text W [] s
    → new ≡ mid ++ arguments_text W vs n (arguments_of t) → new ≡ old ++ expression_text W vs n t
meta_written W vs n (bound i) s old mid new e m g = cc
meta_written W vs n (free v) s old mid new e m g = cc
meta_written W vs n (symbol r a) s old mid new e m g = cc
meta_written W vs n (meta r a) s old mid new e m g =
    let same : s ≡ r = cc in
    let x = metavariable_text W [] r in
    g ∙ ap (λ z. z ++ arguments_text W vs n (list_of_terms a)) (m ∙ ap (λ s. old ++ metavariable_text W [] s) same)
    ∙ ap (λ xs. old ++ x ++ in_parentheses xs) (meta_texts W vs n a) ∙ append_assoc old x (in_parentheses (term_texts W vs n a))

-- one more binder
abbrev binder : ℕ → Text
binder n = codes "{@" ++ decimal n ++ codes "} "

pub binders_next : (n k : ℕ) → binders_text n (suc k) ≡ binders_text n k ++ (codes "{@" ++ decimal (n + k) ++ codes "} ")
binders_next n zero = append-nil (binder n) ∙ ap binder (sym (none_more n))
binders_next n (suc k) =
    ap (λ z. binder n ++ z) (binders_next (suc n) k) ∙ sym (append_assoc (binder n) (binders_text (suc n) k) (binder (suc n + k)))
    ∙ ap (λ m. (binder n ++ binders_text (suc n) k) ++ binder m) (sym (one_more n k))

-- one more argument
pub argument_written : (W : Declarations) (vs : List ℕ) (n : ℕ) (ps : List Argument) (i : ℕ) (p : Argument) (b old out mid then new : Text) → slice_get ps i ≡ Some p → (i ≡ 0 → b ≡ codes "(") → (i ≢ 0 → b ≡ codes ", ")
    → out ≡ old ++ opened (map (argument_text W vs n) (take i ps)) → mid ≡ out ++ b → then ≡ mid ++ binders_text n p.0 → new ≡ then ++ body_text W vs (n + p.0) p.1
    → new ≡ old ++ opened (map (argument_text W vs n) (take (suc i) ps))
argument_written W vs n ps i p b old out mid then new g first next o m t e =
    written_more old (opened (map (argument_text W vs n) (take i ps))) b (argument_text W vs n p) out mid new (opened (map (argument_text W vs n) (take (suc i) ps)))
    (opened_next (argument_text W vs n) ps i p b g first next) o m
    (e ∙ ap (λ z. z ++ body_text W vs (n + p.0) p.1) t ∙ append_assoc mid (binders_text n p.0) (body_text W vs (n + p.0) p.1))

-- no argument is left
pub arguments_closed : (W : Declarations) (vs : List ℕ) (n : ℕ) (ps : List Argument) (i : ℕ) (old out new : Text) → length ps ≢ 0 → length ps ≤ i
    → out ≡ old ++ opened (map (argument_text W vs n) (take i ps)) → new ≡ out ++ codes ")" → new ≡ old ++ arguments_text W vs n ps
arguments_closed W vs n ps i old out new some l o e = go ps some (o ∙ ap (λ qs. old ++ opened (map (argument_text W vs n) qs)) (take_all i ps l))
  where
    go : (ps : List Argument) → length ps ≢ 0 → out ≡ old ++ opened (map (argument_text W vs n) ps) → new ≡ old ++ arguments_text W vs n ps
    go [] some o = absurd (some refl)
    go (p ∷ ps) some o = e ∙ ap (λ z. z ++ codes ")") o ∙ append_assoc old (opened (map (argument_text W vs n) (p ∷ ps))) (codes ")")

pub arguments_none : (W : Declarations) (vs : List ℕ) (n : ℕ) (ps : List Argument) (i : ℕ) (old out : Text) → length ps ≡ 0 → out ≡ old ++ opened (map (argument_text W vs n) (take i ps)) → out ≡ old ++ arguments_text W vs n ps
arguments_none W vs n ps i old out l o = o ∙ go ps l
  where
    none : (i : ℕ) → opened (map (argument_text W vs n) (take i [])) ≡ []
    none zero = refl
    none (suc i) = refl

    go : (ps : List Argument) → length ps ≡ 0 → old ++ opened (map (argument_text W vs n) (take i ps)) ≡ old ++ arguments_text W vs n ps
    go [] l = ap (λ z. old ++ z) (none i)
    go (p ∷ ps) l = absurd (omega arith)

-- an argument of a small expression has few binders
in_arguments : (a : Arguments) (i : ℕ) (p : Argument) → NumbersFitInArguments a → slice_get (list_of_arguments a) i ≡ Some p → p.0 < 2 ^ 32
in_arguments no_arguments i p h g = none_some g
in_arguments (with_body k e a) zero p h g = let same : k ≡ p.0 = cc in subst (λ k. k < 2 ^ 32) same h.0
in_arguments (with_body k e a) (suc i) p h g = in_arguments a i p h.2 g
in_arguments (dummy k a) zero p h g = let same : k ≡ p.0 = cc in subst (λ k. k < 2 ^ 32) same h.0
in_arguments (dummy k a) (suc i) p h g = in_arguments a i p h.1 g

in_terms : (a : Terms) (i : ℕ) (p : Argument) → slice_get (list_of_terms a) i ≡ Some p → p.0 < 2 ^ 32
in_terms no_terms i p g = none_some g
in_terms (also t a) zero p g = let same : 0 ≡ p.0 = cc in subst (λ k. k < 2 ^ 32) same (omega arith)
in_terms (also t a) (suc i) p g = in_terms a i p g

pub few_binders : (t : Expression) (i : ℕ) (p : Argument) → IsSmall t → slice_get (arguments_of t) i ≡ Some p → p.0 < 2 ^ 32
few_binders (bound j) i p s g = none_some g
few_binders (free v) i p s g = none_some g
few_binders (symbol f a) i p s g = in_arguments a i p s.kept.2 g
few_binders (meta m a) i p s g = in_terms a i p g

-- room for what is below
pub binders_fit : (n k e : ℕ) → HasRoom n e → k < 2 ^ 32 → n + k < 2 ^ 128
binders_fit n k e h l = omega arith

pub room_for_body : (n k e : ℕ) (o : Option ℕ) → HasRoom n e → k < 2 ^ 32 → BodyBelow e o → IfSome o (λ b. HasRoom (n + k) b)
room_for_body n k e None h l m = tt
room_for_body n k e (Some b) h l m = omega arith

pub body_within : (e n : ℕ) (o : Option ℕ) → e < n → BodyBelow e o → BodyBelow n o
body_within e n None l h = tt
body_within e n (Some b) l h = omega arith
