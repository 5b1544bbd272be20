-- The parts of a step, one after the other.
use Rattle.std.proofs.Common.{◌≡◌, ◌∙◌, sym, ap, refl, subst, ℕ, zero, suc, List, [], ◌∷◌, ◌++◌, take, slice_get, Some, codes, append_assoc}
use Rattle.ft_items.specs.Sets.{Atom}
use Rattle.ft_items.specs.Texts.{Part, number, slash, part_text, PartsFit, NumberFits, EachNumberFits, AtomFits, EachAtomFits}
use Rattle.ft_export.specs.Parts.{parts_text, worded_text, numbers}

pub parts_append : (ps qs : List Part) → parts_text (ps ++ qs) ≡ parts_text ps ++ parts_text qs
parts_append [] qs = refl
parts_append (p ∷ ps) qs = ap (λ z. (codes " " ++ part_text p) ++ z) (parts_append ps qs) ∙ sym (append_assoc (codes " " ++ part_text p) (parts_text ps) (parts_text qs))

pub parts_fit_append : (ps qs : List Part) → PartsFit ps → PartsFit qs → PartsFit (ps ++ qs)
parts_fit_append [] qs h k = k
parts_fit_append (number n ∷ ps) qs h k = (h.0, parts_fit_append ps qs h.1 k)
parts_fit_append (slash ∷ ps) qs h k = parts_fit_append ps qs h k

-- one more number
pub numbers_next : (ns : List ℕ) (i n : ℕ) (old out new : List ℕ) → slice_get ns i ≡ Some n → out ≡ old ++ parts_text (numbers (take i ns)) → new ≡ out ++ parts_text (number n ∷ [])
    → new ≡ old ++ parts_text (numbers (take (suc i) ns))
numbers_next ns i n old out new g o e =
    e ∙ ap (λ z. z ++ parts_text (number n ∷ [])) o ∙ append_assoc old (parts_text (numbers (take i ns))) (parts_text (number n ∷ [])) ∙ ap (λ z. old ++ z) (sym (more ns i g))
  where
    more : (ns : List ℕ) (i : ℕ) → slice_get ns i ≡ Some n → parts_text (numbers (take (suc i) ns)) ≡ parts_text (numbers (take i ns)) ++ parts_text (number n ∷ [])
    more [] i g = cc
    more (m ∷ ns) zero g = let same : m ≡ n = cc in ap (λ m. parts_text (number m ∷ [])) same
    more (m ∷ ns) (suc i) g =
        ap (λ z. (codes " " ++ part_text (number m)) ++ z) (more ns i g) ∙ sym (append_assoc (codes " " ++ part_text (number m)) (parts_text (numbers (take i ns))) (parts_text (number n ∷ [])))

pub numbers_fit_next : (ns : List ℕ) (i n : ℕ) → slice_get ns i ≡ Some n → PartsFit (numbers (take i ns)) → PartsFit (number n ∷ []) → PartsFit (numbers (take (suc i) ns))
numbers_fit_next [] i n g h k = cc
numbers_fit_next (m ∷ ns) zero n g h k = let same : n ≡ m = cc in subst (λ m. PartsFit (number m ∷ [])) same k
numbers_fit_next (m ∷ ns) (suc i) n g h k = (h.0, numbers_fit_next ns i n g h.1 k)

-- more parts after a word and parts
pub worded_more : (word : List ℕ) (ps qs : List Part) (old mid new : List ℕ) → mid ≡ old ++ worded_text word ps → new ≡ mid ++ parts_text qs → new ≡ old ++ worded_text word (ps ++ qs)
worded_more word ps qs old mid new m n =
    n ∙ ap (λ z. z ++ parts_text qs) m ∙ append_assoc old (worded_text word ps) (parts_text qs)
    ∙ ap (λ z. old ++ z) (append_assoc word (parts_text ps) (parts_text qs) ∙ ap (λ z. word ++ z) (sym (parts_append ps qs)))

-- a slash and a list after a word and parts
pub slash_more : (word : List ℕ) (ps qs : List Part) (old mid then new : List ℕ) → mid ≡ old ++ worded_text word ps → then ≡ mid ++ codes " /" → new ≡ then ++ parts_text qs
    → new ≡ old ++ worded_text word (ps ++ (slash ∷ qs))
slash_more word ps qs old mid then new m t n =
    worded_more word ps (slash ∷ qs) old mid new m (n ∙ ap (λ z. z ++ parts_text qs) t ∙ append_assoc mid (codes " /") (parts_text qs))

-- one more atom
pub atoms_fit_next : (S : List Atom) (i : ℕ) (a : Atom) → slice_get S i ≡ Some a → EachAtomFits (take i S) → AtomFits a → EachAtomFits (take (suc i) S)
atoms_fit_next [] i a g h k = cc
atoms_fit_next (b ∷ S) zero a g h k = let same : a ≡ b = cc in (subst AtomFits same k, tt)
atoms_fit_next (b ∷ S) (suc i) a g h k = (h.0, atoms_fit_next S i a g h.1 k)

-- two lists, with a slash between them and one before the last number
pub moved_fits : (a : ℕ) (ps es : List ℕ) (q : ℕ) → PartsFit (number a ∷ (numbers ps ++ (slash ∷ numbers es))) → PartsFit (number q ∷ [])
    → PartsFit (number a ∷ (numbers ps ++ (slash ∷ (numbers es ++ (slash ∷ number q ∷ [])))))
moved_fits a ps es q h k = (h.0, go (numbers ps) h.1)
  where
    go : (xs : List Part) → PartsFit (xs ++ (slash ∷ numbers es)) → PartsFit (xs ++ (slash ∷ (numbers es ++ (slash ∷ number q ∷ []))))
    go [] h = parts_fit_append (numbers es) (slash ∷ number q ∷ []) h k
    go (number n ∷ xs) h = (h.0, go xs h.1)
    go (slash ∷ xs) h = go xs h

pub each_fits_next : (ns : List ℕ) (i n : ℕ) → slice_get ns i ≡ Some n → EachNumberFits (take i ns) → NumberFits n → EachNumberFits (take (suc i) ns)
each_fits_next [] i n g h k = cc
each_fits_next (m ∷ ns) zero n g h k = let same : n ≡ m = cc in (subst NumberFits same k, tt)
each_fits_next (m ∷ ns) (suc i) n g h k = (h.0, each_fits_next ns i n g h.1 k)
