-- The text of an expression, by its arguments.
use Rattle.std.proofs.Common.{◌≡◌, ◌≢◌, ◌∙◌, sym, ap, ap₂, refl, subst, ℕ, zero, suc, ◌+◌, ◌*◌, Option, Some, None, List, [], ◌∷◌, ◌++◌, map, take, slice_get, codes, decimal, append_assoc}
use Rattle.ft_theory.specs.Expressions.{Expression, bound, free, symbol, meta, Arguments, no_arguments, with_body, dummy, Terms, no_terms, also}
use Rattle.ft_items.specs.Texts.{joined, expression_text, argument_texts, term_texts, NumberFits, ItsNumbersFit, ArgumentNumbersFit, TermNumbersFit}
use Rattle.ft_syntax.specs.Arguments.{Argument, node_of, arguments_of, list_of_arguments, list_of_terms}
use Rattle.ft_syntax.specs.declared.syntax.Node.{Node}
use Rattle.ft_syntax.specs.declared.syntax.Node.TheVariants.{Sym, Meta}
use Rattle.ft_export.specs.Arguments.{body_text, binders_text, argument_text, arguments_text, BodyFits, ArgumentsFit}
use Rattle.ft_export.proofs.Joining.{written_next}

-- a measure of what is below an argument
abbrev pub body_measure : Option ℕ → ℕ
body_measure None = 0
body_measure (Some e) = 3 * e + 3

symbol_texts : (s : ℕ) (a : Arguments) → map (argument_text (Sym s)) (list_of_arguments a) ≡ argument_texts a
symbol_texts s no_arguments = refl
symbol_texts s (with_body n e a) = ap (λ xs. (decimal n ++ codes "." ++ expression_text e) ∷ xs) (symbol_texts s a)
symbol_texts s (dummy n a) = ap₂ (λ x xs. x ∷ xs) (append_assoc (decimal n) (codes ".") (codes "*")) (symbol_texts s a)

meta_texts : (m : ℕ) (a : Terms) → map (argument_text (Meta m)) (list_of_terms a) ≡ term_texts a
meta_texts m no_terms = refl
meta_texts m (also t a) = ap (λ xs. expression_text t ∷ xs) (meta_texts m a)

wrapped : (old l n j : List ℕ) → old ++ l ++ n ++ (codes "(" ++ j ++ codes ")") ≡ old ++ (l ++ n ++ codes "(" ++ j ++ codes ")")
wrapped old l n j =
    let o = codes "(" in
    let c = codes ")" in
    ap (λ z. z ++ (o ++ j ++ c)) (append_assoc old l n) ∙ append_assoc old (l ++ n) (o ++ j ++ c)
    ∙ ap (λ z. old ++ z) (sym (append_assoc (l ++ n) (o ++ j) c) ∙ ap (λ z. z ++ c) (sym (append_assoc (l ++ n) o j)))

pub symbol_written : (t : Expression) (s : ℕ) (old mid new : List ℕ) → Sym s ≡ node_of t → mid ≡ old ++ codes "s" ++ decimal s
    → new ≡ mid ++ arguments_text (node_of t) (arguments_of t) → new ≡ old ++ expression_text t
symbol_written (bound i) s old mid new e m n = cc
symbol_written (free v) s old mid new e m n = cc
symbol_written (symbol r a) s old mid new e m n =
    let same : s ≡ r = cc in
    n ∙ ap (λ z. z ++ arguments_text (Sym r) (list_of_arguments a)) (m ∙ ap (λ s. old ++ codes "s" ++ decimal s) same)
    ∙ ap (λ xs. old ++ codes "s" ++ decimal r ++ (codes "(" ++ joined (codes ",") xs ++ codes ")")) (symbol_texts r a)
    ∙ wrapped old (codes "s") (decimal r) (joined (codes ",") (argument_texts a))
symbol_written (meta r a) s old mid new e m n = cc

pub meta_written : (t : Expression) (s : ℕ) (old mid new : List ℕ) → Meta s ≡ node_of t → mid ≡ old ++ codes "m" ++ decimal s
    → new ≡ mid ++ arguments_text (node_of t) (arguments_of t) → new ≡ old ++ expression_text t
meta_written (bound i) s old mid new e m n = cc
meta_written (free v) s old mid new e m n = cc
meta_written (symbol r a) s old mid new e m n = cc
meta_written (meta r a) s old mid new e m n =
    let same : s ≡ r = cc in
    n ∙ ap (λ z. z ++ arguments_text (Meta r) (list_of_terms a)) (m ∙ ap (λ s. old ++ codes "m" ++ decimal s) same)
    ∙ ap (λ xs. old ++ codes "m" ++ decimal r ++ (codes "(" ++ joined (codes ",") xs ++ codes ")")) (meta_texts r a)
    ∙ wrapped old (codes "m") (decimal r) (joined (codes ",") (term_texts a))

arguments_fit : (a : Arguments) → ArgumentsFit (list_of_arguments a) → ArgumentNumbersFit a
arguments_fit no_arguments h = tt
arguments_fit (with_body n e a) h = (h.0, h.1, arguments_fit a h.2)
arguments_fit (dummy n a) h = (h.0, arguments_fit a h.2)

terms_fit : (a : Terms) → ArgumentsFit (list_of_terms a) → TermNumbersFit a
terms_fit no_terms h = tt
terms_fit (also t a) h = (h.1, terms_fit a h.2)

pub symbol_fits : (t : Expression) (s : ℕ) → Sym s ≡ node_of t → NumberFits s → ArgumentsFit (arguments_of t) → ItsNumbersFit t
symbol_fits (bound i) s e n h = cc
symbol_fits (free v) s e n h = cc
symbol_fits (symbol r a) s e n h = let same : s ≡ r = cc in (subst NumberFits same n, arguments_fit a h)
symbol_fits (meta r a) s e n h = cc

pub meta_fits : (t : Expression) (s : ℕ) → Meta s ≡ node_of t → NumberFits s → ArgumentsFit (arguments_of t) → ItsNumbersFit t
meta_fits (bound i) s e n h = cc
meta_fits (free v) s e n h = cc
meta_fits (symbol r a) s e n h = cc
meta_fits (meta r a) s e n h = let same : s ≡ r = cc in (subst NumberFits same n, terms_fit a h)

pub fits_next : (ps : List Argument) (i : ℕ) (p : Argument) → ArgumentsFit (take i ps) → slice_get ps i ≡ Some p → NumberFits p.0 → BodyFits p.1 → ArgumentsFit (take (suc i) ps)
fits_next [] i p h g n b = cc
fits_next (q ∷ ps) zero p h g n b = let same : p ≡ q = cc in (subst (λ (q : Argument). NumberFits q.0) same n, subst (λ (q : Argument). BodyFits q.1) same b, tt)
fits_next (q ∷ ps) (suc i) p h g n b = (h.0, h.1, fits_next ps i p h.2 g n b)

-- one more argument
pub argument_written : (node : Node) (ps : List Argument) (i : ℕ) (p : Argument) (b start out mid then new : List ℕ) → slice_get ps i ≡ Some p → (i ≡ 0 → b ≡ []) → (i ≢ 0 → b ≡ codes ",")
    → out ≡ start ++ joined (codes ",") (map (argument_text node) (take i ps)) → mid ≡ out ++ b → then ≡ mid ++ binders_text node p.0 → new ≡ then ++ body_text p.1
    → new ≡ start ++ joined (codes ",") (map (argument_text node) (take (suc i) ps))
argument_written node ps i p b start out mid then new g first next o m t n =
    written_next (argument_text node) (codes ",") ps i p b start out mid new g first next o m (n ∙ ap (λ z. z ++ body_text p.1) t ∙ append_assoc mid (binders_text node p.0) (body_text p.1))
