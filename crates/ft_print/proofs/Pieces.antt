-- Steps of writing a type from a stack of pieces.
use Rattle.std.proofs.Common.{◌≡◌, ◌∙◌, ◌+◌, ◌<◌, ◌++◌, sym, ap, refl, subst, ℕ, List, [], ◌∷◌, length, cond, true, false, codes, append_assoc, append-nil, arith}
use Rattle.ft_meaning.specs.Trees.{ValueType, pair}
use Rattle.ft_meaning.specs.Texts.{Text}
use Rattle.ft_meaning.specs.Faults.{type_text, inside, is_pair}
use Rattle.ft_types.specs.declared.types.KnownType.{KnownType}
use Rattle.ft_types.specs.Types.{type_in, Below}
use Rattle.ft_print.specs.declared.types.Piece.{Piece}
use Rattle.ft_print.specs.declared.types.Piece.TheVariants as piece
use Rattle.ft_print.specs.Pieces.{piece_text, text_before, text_left, Within, AllWithin, work_of_type, work_of, work_left, Goes}

-- ---- one more piece on the stack

pub text_more : (ts : List ValueType) (after : Text) (ps : List Piece) (p : Piece)
    → text_before ts after (ps ++ p ∷ []) ≡ piece_text ts p ++ text_before ts after ps
text_more ts after [] p = refl
text_more ts after (q ∷ ps) p = text_more ts (piece_text ts q ++ after) ps p

pub work_more : (ts : List ValueType) (ps : List Piece) (p : Piece) → work_left ts (ps ++ p ∷ []) ≡ work_left ts ps + work_of ts p
work_more ts [] p = omega arith
work_more ts (q ∷ ps) p = omega (arith, work_more ts ps p)

pub within_more : (n : ℕ) (ps : List Piece) (p : Piece) → AllWithin n ps → Within n p → AllWithin n (ps ++ p ∷ [])
within_more n [] p all here = (here, tt)
within_more n (q ∷ ps) p all here = (all.0, within_more n ps p all.1 here)

pub within_last : (n : ℕ) (ps : List Piece) (p : Piece) → AllWithin n (ps ++ p ∷ []) → Within n p
within_last n [] p all = all.0
within_last n (q ∷ ps) p all = within_last n ps p all.1

pub within_rest : (n : ℕ) (ps : List Piece) (p : Piece) → AllWithin n (ps ++ p ∷ []) → AllWithin n ps
within_rest n [] p all = tt
within_rest n (q ∷ ps) p all = (all.0, within_rest n ps p all.1)

-- ---- steps

-- nothing is left of a piece that is written whole
pub goes_whole : (ts : List ValueType) (p : Piece) (old x new : Text) (ps : List Piece) → AllWithin (length ts) ps
    → new ≡ old ++ x → x ≡ piece_text ts p → 0 < work_of ts p → Goes ts p old ps new ps
goes_whole ts p old x new ps all n e w = record {
  same = ap (λ z. z ++ text_left ts ps) (n ∙ ap (λ z. old ++ z) e) ∙ append_assoc old (piece_text ts p) (text_left ts ps);
  within = all;
  less = omega (arith, w);
}

-- one piece is left behind what is written
pub goes_to_one : (ts : List ValueType) (p q : Piece) (old x new : Text) (ps : List Piece) → AllWithin (length ts) ps → Within (length ts) q
    → new ≡ old ++ x → x ++ piece_text ts q ≡ piece_text ts p → work_of ts q < work_of ts p → Goes ts p old ps new (ps ++ q ∷ [])
goes_to_one ts p q old x new ps all here n e w = record {
  same =
      ap (λ z. new ++ z) (text_more ts [] ps q)
      ∙ ap (λ z. z ++ (piece_text ts q ++ text_left ts ps)) n
      ∙ append_assoc old x (piece_text ts q ++ text_left ts ps)
      ∙ ap (λ z. old ++ z) (sym (append_assoc x (piece_text ts q) (text_left ts ps)) ∙ ap (λ z. z ++ text_left ts ps) e);
  within = within_more (length ts) ps q all here;
  less = omega (arith, w, work_more ts ps q);
}

-- two pieces are left behind what is written
pub goes_to_two : (ts : List ValueType) (p q r : Piece) (old x new : Text) (ps : List Piece) → AllWithin (length ts) ps → Within (length ts) q → Within (length ts) r
    → new ≡ old ++ x → x ++ (piece_text ts r ++ piece_text ts q) ≡ piece_text ts p → work_of ts q + work_of ts r < work_of ts p
    → Goes ts p old ps new ((ps ++ q ∷ []) ++ r ∷ [])
goes_to_two ts p q r old x new ps all here there n e w = record {
  same =
      ap (λ z. new ++ z) left
      ∙ ap (λ z. z ++ ((piece_text ts r ++ piece_text ts q) ++ text_left ts ps)) n
      ∙ append_assoc old x ((piece_text ts r ++ piece_text ts q) ++ text_left ts ps)
      ∙ ap (λ z. old ++ z) (sym (append_assoc x (piece_text ts r ++ piece_text ts q) (text_left ts ps)) ∙ ap (λ z. z ++ text_left ts ps) e);
  within = within_more (length ts) (ps ++ q ∷ []) r (within_more (length ts) ps q all here) there;
  less = omega (arith, w, work_more ts ps q, work_more ts (ps ++ q ∷ []) r);
}
  where
    left : text_left ts ((ps ++ q ∷ []) ++ r ∷ []) ≡ (piece_text ts r ++ piece_text ts q) ++ text_left ts ps
    left =
        text_more ts [] (ps ++ q ∷ []) r
        ∙ ap (λ z. piece_text ts r ++ z) (text_more ts [] ps q)
        ∙ sym (append_assoc (piece_text ts r) (piece_text ts q) (text_left ts ps))

-- a type of pairs leaves three pieces
pub goes_to_pair : (ts : List ValueType) (p : Piece) (a b : KnownType) (old : Text) (ps : List Piece) → AllWithin (length ts) ps → Below (length ts) a → Below (length ts) b
    → piece_text ts p ≡ type_text (pair (type_in ts a) (type_in ts b)) → work_of ts p ≡ work_of_type (pair (type_in ts a) (type_in ts b))
    → Goes ts p old ps old (((ps ++ piece.Inside b ∷ []) ++ piece.Times ∷ []) ++ piece.Inside a ∷ [])
goes_to_pair ts p a b old ps all ha hb e w = record {
  same = ap (λ z. old ++ z) (left ∙ ap (λ z. z ++ text_left ts ps) (sym e));
  within = within_more (length ts) two (piece.Inside a) (within_more (length ts) one piece.Times (within_more (length ts) ps (piece.Inside b) all hb) tt) ha;
  less = omega (arith, w, work_more ts ps (piece.Inside b), work_more ts one piece.Times, work_more ts two (piece.Inside a));
}
  where
    one : List Piece
    one = ps ++ piece.Inside b ∷ []

    two : List Piece
    two = one ++ piece.Times ∷ []

    first : Text
    first = piece_text ts (piece.Inside a)

    second : Text
    second = piece_text ts (piece.Inside b)

    left : text_left ts (two ++ piece.Inside a ∷ []) ≡ (first ++ codes " * " ++ second) ++ text_left ts ps
    left =
        text_more ts [] two (piece.Inside a)
        ∙ ap (λ z. first ++ z) (text_more ts [] one piece.Times ∙ ap (λ z. codes " * " ++ z) (text_more ts [] ps (piece.Inside b)))
        ∙ sym (append_assoc (first ++ codes " * ") second (text_left ts ps) ∙ append_assoc first (codes " * ") (second ++ text_left ts ps))

-- ---- what is put on the stack

-- a type of pairs: three pieces
pub pair_put : (ts : List ValueType) (t a b : KnownType) (old : Text) (ps one two new : List Piece) → AllWithin (length ts) ps → Below (length ts) a × Below (length ts) b
    → type_in ts t ≡ pair (type_in ts a) (type_in ts b) → one ≡ ps ++ piece.Inside b ∷ [] → two ≡ one ++ piece.Times ∷ [] → new ≡ two ++ piece.Inside a ∷ []
    → Goes ts (piece.Whole t) old ps old new
pair_put ts t a b old ps one two new all h e o w n =
    subst (Goes ts (piece.Whole t) old ps old) (sym (n ∙ ap (λ z. z ++ piece.Inside a ∷ []) (w ∙ ap (λ z. z ++ piece.Times ∷ []) o)))
    (goes_to_pair ts (piece.Whole t) a b old ps all h.0 h.1 (ap type_text e) (ap work_of_type e))

-- a type of lists or options: its word is written, and the type of the members is put
pub member_put : (ts : List ValueType) (t a : KnownType) (whole : ValueType) (old x out : Text) (ps new : List Piece) → AllWithin (length ts) ps → Below (length ts) a
    → type_in ts t ≡ whole → x ++ inside (type_in ts a) (type_text (type_in ts a)) ≡ type_text whole → 2 + work_of_type (type_in ts a) < work_of_type whole
    → out ≡ old ++ x → new ≡ ps ++ piece.Inside a ∷ [] → Goes ts (piece.Whole t) old ps out new
member_put ts t a whole old x out ps new all h e text work o n =
    subst (Goes ts (piece.Whole t) old ps out) (sym n)
    (goes_to_one ts (piece.Whole t) (piece.Inside a) old x out ps all h o (text ∙ sym (ap type_text e)) (subst (λ z. 2 + work_of_type (type_in ts a) < work_of_type z) (sym e) work))

-- a pair inside another type: the parenthesis is written, and the closing one put before the type
pub pair_inside : (ts : List ValueType) (t : KnownType) (old out : Text) (ps one new : List Piece) → AllWithin (length ts) ps → Below (length ts) t
    → is_pair (type_in ts t) ≡ true → out ≡ old ++ codes "(" → one ≡ ps ++ piece.Closing ∷ [] → new ≡ one ++ piece.Whole t ∷ [] → Goes ts (piece.Inside t) old ps out new
pair_inside ts t old out ps one new all h b o m n =
    let T : Text = type_text (type_in ts t) in
    subst (Goes ts (piece.Inside t) old ps out) (sym (n ∙ ap (λ z. z ++ piece.Whole t ∷ []) m))
    (goes_to_two ts (piece.Inside t) piece.Closing (piece.Whole t) old (codes "(") out ps all tt h o
    (sym (append_assoc (codes "(") T (codes ")")) ∙ sym (ap (λ c. cond c (codes "(" ++ T ++ codes ")") T) b)) (omega arith))

-- another type inside
pub other_inside : (ts : List ValueType) (t : KnownType) (old out : Text) (ps one new : List Piece) → AllWithin (length ts) ps → Below (length ts) t
    → is_pair (type_in ts t) ≡ false → out ≡ old → one ≡ ps → new ≡ one ++ piece.Whole t ∷ [] → Goes ts (piece.Inside t) old ps out new
other_inside ts t old out ps one new all h b o m n =
    let T : Text = type_text (type_in ts t) in
    subst (Goes ts (piece.Inside t) old ps out) (sym (n ∙ ap (λ z. z ++ piece.Whole t ∷ []) m))
    (goes_to_one ts (piece.Inside t) (piece.Whole t) old [] out ps all h (o ∙ sym (append-nil old)) (sym (ap (λ c. cond c (codes "(" ++ T ++ codes ")") T) b)) (omega arith))

-- ---- a piece that is taken off the stack

pub text_goes_on : (ts : List ValueType) (p : Piece) (start old new whole : Text) (all ps qs : List Piece) → all ≡ ps ++ p ∷ [] → Goes ts p old ps new qs
    → old ++ text_left ts all ≡ start ++ whole → new ++ text_left ts qs ≡ start ++ whole
text_goes_on ts p start old new whole all ps qs e g h = g.same ∙ ap (λ z. old ++ z) (sym (ap (text_left ts) e ∙ text_more ts [] ps p)) ∙ h

pub less_left : (ts : List ValueType) (p : Piece) (old new : Text) (all ps qs : List Piece) → all ≡ ps ++ p ∷ [] → Goes ts p old ps new qs → work_left ts qs < work_left ts all
less_left ts p old new all ps qs e g = omega (arith, g.less, ap (work_left ts) e ∙ work_more ts ps p)
