-- The text of a simple expression, argument by argument.
use Rattle.std.proofs.Common.{◌≡◌, ◌≢◌, ◌∙◌, sym, ap, ap₂, refl, subst, ℕ, zero, suc, ◌≤◌, List, [], ◌∷◌, ◌++◌, length, drop, slice_get, Some, None, option_map, append_assoc, append-nil, arith, codes, encode_utf8_all, Result, Ok, Err, OnOk, OnErr}
use Rattle.ft_theory.specs.Expressions.{Expression, bound, free, symbol, meta, Arguments, no_arguments, with_body, dummy}
use Rattle.ft_syntax.specs.Arguments.{Argument, node_of, arguments_of, list_of_arguments, as_arguments}
use Rattle.ft_syntax.specs.Laws.{arguments_listed}
use Rattle.ft_syntax.specs.Table.{tree, argument_in}
use Rattle.ft_syntax.specs.declared.syntax.Arg.{Arg}
use Rattle.ft_syntax.specs.declared.syntax.Node.TheVariants.{Sym}
use Rattle.ft_applications_meaning.specs.Texts.{symbol_text, expression_text, rest_text}
use Rattle.ft_run.specs.declared.session.Known.{Known}
use Rattle.ft_run.specs.Session.{IsSimple, AreSimple}
use Rattle.ft_run.specs.Claiming.{names_known}
use Rattle.ft_run.specs.Printing.{HasBeginning}

-- the name at a place
pub name_there : (ks : List Known) (s : ℕ) (k : Known) → slice_get ks s ≡ Some k → encode_utf8_all k.name ≡ symbol_text (names_known ks) s
name_there [] s k e = cc
name_there (x ∷ ks) zero k e = let same : x ≡ k = cc in ap (λ k. encode_utf8_all k.name) (sym same)
name_there (x ∷ ks) (suc s) k e = name_there ks s k e

-- no name where there is no rule
pub name_missing : (ks : List Known) (s : ℕ) → slice_get ks s ≡ None → symbol_text (names_known ks) s ≡ []
name_missing [] s e = refl
name_missing (x ∷ ks) zero e = cc
name_missing (x ∷ ks) (suc s) e = name_missing ks s e

-- an argument without binders, which is simple
abbrev pub IsPlain : Argument → Type 0
IsPlain (n, Some e) = (n ≡ 0) × IsSimple e
IsPlain (n, None) = ⊥

plain_in : (a : Arguments) (i : ℕ) (p : Argument) → AreSimple a → slice_get (list_of_arguments a) i ≡ Some p → IsPlain p
plain_in no_arguments i p h g = cc
plain_in (with_body n e a) zero p h g = let same : (n, Some e) ≡ p = cc in subst IsPlain same (h.0, h.1)
plain_in (with_body n e a) (suc i) p h g = plain_in a i p h.2 g
plain_in (dummy n a) i p h g = absurd h

plain_at : (t : Expression) (i : ℕ) (p : Argument) → IsSimple t → slice_get (arguments_of t) i ≡ Some p → IsPlain p
plain_at (bound j) i p h g = absurd h
plain_at (free v) i p h g = absurd h
plain_at (symbol s a) i p h g = plain_in a i p h g
plain_at (meta m a) i p h g = absurd h

-- the argument of a simple expression
pub argument_is : (ts : List Expression) (t : Expression) (i b : ℕ) (x : Arg) → IsSimple t → slice_get (arguments_of t) i ≡ Some (argument_in ts x) → x.body ≡ Some b
    → slice_get (arguments_of t) i ≡ Some (0, Some (tree ts b))
argument_is ts t i b x h g e =
    let p : IsPlain (x.binders, Some (tree ts b)) = subst (λ c. IsPlain (x.binders, option_map (tree ts) c)) e (plain_at t i (argument_in ts x) h g) in
    g ∙ ap₂ (λ n c. Some (n, option_map (tree ts) c)) p.0 e

pub argument_simple : (ts : List Expression) (t : Expression) (i b : ℕ) (x : Arg) → IsSimple t → slice_get (arguments_of t) i ≡ Some (argument_in ts x) → x.body ≡ Some b
    → IsSimple (tree ts b)
argument_simple ts t i b x h g e =
    let p : IsPlain (x.binders, Some (tree ts b)) = subst (λ c. IsPlain (x.binders, option_map (tree ts) c)) e (plain_at t i (argument_in ts x) h g) in
    p.1

-- is no dummy
pub no_dummy : (ts : List Expression) (t : Expression) (i : ℕ) (x : Arg) → IsSimple t → slice_get (arguments_of t) i ≡ Some (argument_in ts x) → x.body ≡ None → ⊥
no_dummy ts t i x h g e = subst (λ c. IsPlain (x.binders, option_map (tree ts) c)) e (plain_at t i (argument_in ts x) h g)

-- the text of the arguments that are left, from place i
abbrev left_text : List (List ℕ) → ℕ → List Argument → List ℕ
left_text ns zero [] = []
left_text ns zero ((n, Some e) ∷ ps) = codes "(" ++ (expression_text ns e ++ (rest_text ns (as_arguments ps) ++ codes ")"))
left_text ns zero ((n, None) ∷ ps) = []
left_text ns (suc i) ps = rest_text ns (as_arguments (drop (suc i) ps)) ++ codes ")"

-- the part that is written after what was there, with the text of the arguments that are left, is the text of the expression
pub record IsWritten (ns : List (List ℕ)) (t : Expression) (i : ℕ) (old out : List ℕ) : Type 0 where
  pub part : List ℕ
  pub is : out ≡ old ++ part
  pub whole : part ++ left_text ns i (arguments_of t) ≡ expression_text ns t

symbol_left : (ns : List (List ℕ)) (s : ℕ) (a : Arguments) → symbol_text ns s ++ left_text ns 0 (list_of_arguments a) ≡ expression_text ns (symbol s a)
symbol_left ns s no_arguments = append-nil (symbol_text ns s)
symbol_left ns s (with_body n e a) =
    let b = symbol_text ns s in
    let x = expression_text ns e in
    let r = rest_text ns a in
    ap (λ a. b ++ (codes "(" ++ (x ++ (rest_text ns a ++ codes ")")))) (arguments_listed a)
    ∙ sym (append_assoc (b ++ codes "(" ++ x) r (codes ")") ∙ append_assoc (b ++ codes "(") x (r ++ codes ")") ∙ append_assoc b (codes "(") (x ++ (r ++ codes ")")))
symbol_left ns s (dummy n a) = append-nil (symbol_text ns s)

pub written_start : (ns : List (List ℕ)) (t : Expression) (s : ℕ) (old out : List ℕ) → node_of t ≡ Sym s → out ≡ old ++ symbol_text ns s → IsWritten ns t 0 old out
written_start ns (bound i) s old out e w = cc
written_start ns (free v) s old out e w = cc
written_start ns (symbol r a) s old out e w =
    let same : s ≡ r = cc in
    record { part = symbol_text ns r; is = w ∙ ap (λ s. old ++ symbol_text ns s) same; whole = symbol_left ns r a }
written_start ns (meta m a) s old out e w = cc

-- no argument
pub written_none : (ns : List (List ℕ)) (t : Expression) (old out : List ℕ) → IsWritten ns t 0 old out → length (arguments_of t) ≡ 0 → out ≡ old ++ expression_text ns t
written_none ns t old out w l = w.is ∙ ap (λ x. old ++ x) (sym (append-nil w.part) ∙ ap (λ x. w.part ++ x) (sym (none (arguments_of t) l)) ∙ w.whole)
  where
    none : (ps : List Argument) → length ps ≡ 0 → left_text ns 0 ps ≡ []
    none [] l = refl
    none (p ∷ ps) l = cc

drop_at : (ps : List Argument) (i : ℕ) (p : Argument) → slice_get ps i ≡ Some p → drop i ps ≡ p ∷ drop (suc i) ps
drop_at [] i p g = cc
drop_at (q ∷ ps) zero p g = let same : q ≡ p = cc in ap (λ q. q ∷ ps) same
drop_at (q ∷ ps) (suc i) p g = drop_at ps i p g

-- the first argument that is left, with what stands before it
left_first : (ns : List (List ℕ)) (ps : List Argument) (i : ℕ) (e : Expression) (b : List ℕ) → slice_get ps i ≡ Some (0, Some e) → (i ≡ 0 → b ≡ codes "(") → (i ≢ 0 → b ≡ codes ", ")
    → left_text ns i ps ≡ b ++ expression_text ns e ++ left_text ns (suc i) ps
left_first ns [] i e b g f m = cc
left_first ns (p ∷ ps) zero e b g f m =
    let same : p ≡ (0, Some e) = cc in
    let r = rest_text ns (as_arguments ps) in
    ap (λ p. left_text ns 0 (p ∷ ps)) same
    ∙ sym (append_assoc (codes "(") (expression_text ns e) (r ++ codes ")"))
    ∙ ap (λ b. b ++ expression_text ns e ++ (r ++ codes ")")) (sym (f refl))
left_first ns (p ∷ ps) (suc i) e b g f m =
    let k : suc i ≢ 0 = λ z. absurd (omega (arith, z)) in
    let r = rest_text ns (as_arguments (drop (suc i) ps)) in
    ap (λ qs. rest_text ns (as_arguments qs) ++ codes ")") (drop_at ps i (0, Some e) g)
    ∙ append_assoc (codes ", " ++ expression_text ns e) r (codes ")")
    ∙ ap (λ b. b ++ expression_text ns e ++ (r ++ codes ")")) (sym (m k))

goes_on : (old part out b mid x new : List ℕ) → out ≡ old ++ part → mid ≡ out ++ b → new ≡ mid ++ x → new ≡ old ++ (part ++ b ++ x)
goes_on old part out b mid x new e p q =
    q ∙ ap (λ m. m ++ x) (p ∙ ap (λ o. o ++ b) e ∙ append_assoc old part b) ∙ append_assoc old (part ++ b) x

whole_more : (ns : List (List ℕ)) (t : Expression) (i : ℕ) (e : Expression) (b old out : List ℕ) (w : IsWritten ns t i old out) → slice_get (arguments_of t) i ≡ Some (0, Some e)
    → (i ≡ 0 → b ≡ codes "(") → (i ≢ 0 → b ≡ codes ", ") → w.part ++ b ++ expression_text ns e ++ left_text ns (suc i) (arguments_of t) ≡ expression_text ns t
whole_more ns t i e b old out w g f m =
    let x = expression_text ns e in
    let l = left_text ns (suc i) (arguments_of t) in
    append_assoc (w.part ++ b) x l ∙ append_assoc w.part b (x ++ l)
    ∙ ap (λ y. w.part ++ y) (sym (append_assoc b x l) ∙ sym (left_first ns (arguments_of t) i e b g f m)) ∙ w.whole

-- one more argument
pub written_more : (ns : List (List ℕ)) (t : Expression) (i : ℕ) (e : Expression) (b old out mid new : List ℕ) → IsWritten ns t i old out → slice_get (arguments_of t) i ≡ Some (0, Some e)
    → (i ≡ 0 → b ≡ codes "(") → (i ≢ 0 → b ≡ codes ", ") → mid ≡ out ++ b → new ≡ mid ++ expression_text ns e → IsWritten ns t (suc i) old new
written_more ns t i e b old out mid new w g f m p q = record {
  part = w.part ++ b ++ expression_text ns e;
  is = goes_on old w.part out b mid (expression_text ns e) new w.is p q;
  whole = whole_more ns t i e b old out w g f m;
}

-- nothing is added
pub begins_same : (old text new : List ℕ) → new ≡ old → HasBeginning old text new
begins_same old text new e = ([], text, e ∙ sym (append-nil old), refl)

-- the beginning of a part
pub begins_first : (old text more new : List ℕ) → HasBeginning old text new → HasBeginning old (text ++ more) new
begins_first old text more new h = (h.0, h.1 ++ more, h.2, ap (λ x. x ++ more) h.3 ∙ append_assoc h.0 h.1 more)

-- a part, and the beginning of what follows
pub begins_later : (old text more mid new : List ℕ) → mid ≡ old ++ text → HasBeginning mid more new → HasBeginning old (text ++ more) new
begins_later old text more mid new e h =
    (text ++ h.0, h.1, h.2 ∙ ap (λ m. m ++ h.0) e ∙ append_assoc old text h.0, ap (λ x. text ++ x) h.3 ∙ sym (append_assoc text h.0 h.1))

-- no more is added to what is written
pub written_begins : (ns : List (List ℕ)) (t : Expression) (i : ℕ) (old out new : List ℕ) → IsWritten ns t i old out → new ≡ out → HasBeginning old (expression_text ns t) new
written_begins ns t i old out new w e = (w.part, left_text ns i (arguments_of t), e ∙ w.is, sym w.whole)

-- the beginning of one more argument
pub written_part : (ns : List (List ℕ)) (t : Expression) (i : ℕ) (e : Expression) (b old out mid new : List ℕ) → IsWritten ns t i old out → slice_get (arguments_of t) i ≡ Some (0, Some e)
    → (i ≡ 0 → b ≡ codes "(") → (i ≢ 0 → b ≡ codes ", ") → mid ≡ out ++ b → HasBeginning mid (expression_text ns e) new → HasBeginning old (expression_text ns t) new
written_part ns t i e b old out mid new w g f m p h =
    let l = left_text ns (suc i) (arguments_of t) in
    let done = w.part ++ b in (
      done ++ h.0,
      h.1 ++ l,
      goes_on old w.part out b mid h.0 new w.is p h.2,
      sym (whole_more ns t i e b old out w g f m) ∙ ap (λ x. done ++ x ++ l) h.3 ∙ ap (λ y. y ++ l) (sym (append_assoc done h.0 h.1)) ∙ append_assoc (done ++ h.0) h.1 l,
    )

-- no argument is left
pub written_end : (ns : List (List ℕ)) (t : Expression) (i : ℕ) (old out new : List ℕ) → IsWritten ns t i old out → length (arguments_of t) ≢ 0 → length (arguments_of t) ≤ i → new ≡ out ++ codes ")"
    → new ≡ old ++ expression_text ns t
written_end ns t i old out new w n l e =
    e ∙ ap (λ o. o ++ codes ")") w.is ∙ append_assoc old w.part (codes ")")
    ∙ ap (λ x. old ++ x) (ap (λ x. w.part ++ x) (sym (closing (arguments_of t) i n l)) ∙ w.whole)
  where
    all : (ps : List Argument) (i : ℕ) → length ps ≤ i → drop i ps ≡ []
    all [] zero l = refl
    all [] (suc i) l = refl
    all (p ∷ ps) zero l = absurd (omega arith)
    all (p ∷ ps) (suc i) l = all ps i (omega arith)

    closing : (ps : List Argument) (i : ℕ) → length ps ≢ 0 → length ps ≤ i → left_text ns i ps ≡ codes ")"
    closing [] i n l = absurd (n refl)
    closing (p ∷ ps) zero n l = absurd (omega arith)
    closing (p ∷ ps) (suc i) n l = ap (λ qs. rest_text ns (as_arguments qs) ++ codes ")") (all (p ∷ ps) (suc i) l)

-- the same, where there was memory for what ends the text
pub written_ok : {A E : Type 0} (x : Result A E) (ns : List (List ℕ)) (t : Expression) (i : ℕ) (old out new : List ℕ) → IsWritten ns t i old out → length (arguments_of t) ≢ 0 → length (arguments_of t) ≤ i
    → OnOk x (new ≡ out ++ codes ")") → OnOk x (new ≡ old ++ expression_text ns t)
written_ok (Ok a) ns t i old out new w n l e = written_end ns t i old out new w n l e
written_ok (Err f) ns t i old out new w n l e = tt

-- the same, where there was none
pub written_err : {A E : Type 0} (x : Result A E) (ns : List (List ℕ)) (t : Expression) (i : ℕ) (old out new : List ℕ) → IsWritten ns t i old out
    → OnErr x (new ≡ out) → OnErr x (HasBeginning old (expression_text ns t) new)
written_err (Ok a) ns t i old out new w e = tt
written_err (Err f) ns t i old out new w e = written_begins ns t i old out new w e

pub any_err : {A E : Type 0} {P : Type 0} (x : Result A E) → P → OnErr x P
any_err (Ok a) h = tt
any_err (Err f) h = h

pub later_err : {A E : Type 0} (x : Result A E) (old text more mid new : List ℕ) → mid ≡ old ++ text → OnErr x (HasBeginning mid more new) → OnErr x (HasBeginning old (text ++ more) new)
later_err (Ok a) old text more mid new e h = tt
later_err (Err f) old text more mid new e h = begins_later old text more mid new e h

pub same_err : {A E : Type 0} (x : Result A E) (mid more new : List ℕ) → OnErr x (new ≡ mid) → OnErr x (HasBeginning mid more new)
same_err (Ok a) mid more new e = tt
same_err (Err f) mid more new e = begins_same mid more new e
