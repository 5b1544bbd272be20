-- What is read is in the grammar.
use Rattle.std.proofs.Common.{◌≡◌, ◌∙◌, sym, ap, refl, subst, ℕ, zero, suc, List, [], ◌∷◌, ◌++◌, Ok, Err, Option, Some, None, append_assoc, append-nil, length, drop, true, if◌then◌else◌}
use Rattle.ft_base.specs.declared.word.Word.{Word}
use Rattle.ft_base.specs.declared.word.Word.TheVariants as word
use Rattle.ft_base.specs.contracts.word.WordPartialEq.TheImpl as word_eq
use Rattle.ft_common.proofs.Booleans.{false_true}
use Rattle.ft_common.proofs.Choices.{by_test, taken, not_taken}
use Rattle.ft_common.proofs.Results.{ok_ok, err_ok}
use Rattle.ft_grammar.specs.declared.token.Mark.{Mark}
use Rattle.ft_grammar.specs.declared.token.Mark.TheVariants as mark
use Rattle.ft_grammar.specs.contracts.token.MarkPartialEq.TheImpl as mark_eq
use Rattle.ft_grammar.specs.declared.token.Kind.{Kind}
use Rattle.ft_grammar.specs.declared.token.Kind.TheVariants as kind
use Rattle.ft_applications.specs.declared.fault.Fault.TheVariants.{NotYet}
use Rattle.ft_applications_meaning.specs.declared.syntax.Application.{Application}
use Rattle.ft_applications_meaning.specs.declared.syntax.Application.TheVariants as application
use Rattle.ft_applications_meaning.specs.declared.syntax.Premise.{Premise}
use Rattle.ft_applications_meaning.specs.declared.syntax.Premise.TheVariants as premise
use Rattle.ft_applications.specs.Reading.{◌>>=◌, go_on, Outcome, Reader, and_then, expression, level, name, one_argument, arguments_from, expect_mark, sees_mark, sees_name, sees_word, premise_inside}
use Rattle.ft_applications_meaning.specs.Grammar.{left, right, colon, type_word, IsApplication, AreArguments, applied, no_argument, name_alone, in_parentheses, IsPremise, type_premise, term_premise}

-- what was read by two readers in turn was read by the first, and then by the second
pub in_turn : {A B : Type 0} (o : Outcome A) (f : A → Reader B) (b : B) (ts : List Kind) → and_then o f ≡ Ok (b, ts)
    → (p : A × List Kind) × (o ≡ Ok p) × (f p.0 p.1 ≡ Ok (b, ts))
in_turn (Ok p) f b ts h = (p, refl, h)
in_turn (Err e) f b ts h = absurd (err_ok e (b, ts) h)

pub name_is : (ts : List Kind) (n : List ℕ) (rest : List Kind) → name ts ≡ Ok (n, rest) → ts ≡ kind.Name n ∷ rest
unfolding name
name_is [] n rest h = absurd (err_ok NotYet (n, rest) h)
name_is (kind.Name m ∷ ts) n rest h = let e = ok_ok (m, ts) (n, rest) h in ap (λ p. kind.Name p.0 ∷ p.1) e
name_is (kind.Number m ∷ ts) n rest h = absurd (err_ok NotYet (n, rest) h)
name_is (kind.Word w ∷ ts) n rest h = absurd (err_ok NotYet (n, rest) h)
name_is (kind.Mark m ∷ ts) n rest h = absurd (err_ok NotYet (n, rest) h)
name_is (kind.Bad ∷ ts) n rest h = absurd (err_ok NotYet (n, rest) h)
name_is (kind.End ∷ ts) n rest h = absurd (err_ok NotYet (n, rest) h)

pub left_only : (m : Mark) → (mark_eq.ghosts).eq m mark.LeftParen ≡ true → m ≡ mark.LeftParen
left_only mark.LeftParen h = refl
left_only _ h = absurd (false_true h)

pub right_only : (m : Mark) → (mark_eq.ghosts).eq m mark.RightParen ≡ true → m ≡ mark.RightParen
right_only mark.RightParen h = refl
right_only _ h = absurd (false_true h)

pub colon_only : (m : Mark) → (mark_eq.ghosts).eq m mark.Colon ≡ true → m ≡ mark.Colon
colon_only mark.Colon h = refl
colon_only _ h = absurd (false_true h)

pub type_only : (w : Word) → (word_eq.ghosts).eq w word.TypeWord ≡ true → w ≡ word.TypeWord
type_only word.TypeWord h = refl
type_only _ h = absurd (false_true h)

pub rule_only : (w : Word) → (word_eq.ghosts).eq w word.Rule ≡ true → w ≡ word.Rule
rule_only word.Rule h = refl
rule_only _ h = absurd (false_true h)

pub show_only : (w : Word) → (word_eq.ghosts).eq w word.Show ≡ true → w ≡ word.Show
show_only word.Show h = refl
show_only _ h = absurd (false_true h)

module _ (m : Mark) (only : (v : Mark) → (mark_eq.ghosts).eq v m ≡ true → v ≡ m) where
  pub mark_is : (ts : List Kind) → sees_mark m ts ≡ true → ts ≡ kind.Mark m ∷ drop 1 ts
  unfolding sees_mark
  mark_is [] h = absurd (false_true h)
  mark_is (kind.Mark v ∷ ts) h = ap (λ v. kind.Mark v ∷ ts) (only v h)
  mark_is (_ ∷ ts) h = absurd (false_true h)

  pub expected : (ts rest : List Kind) → expect_mark m ts ≡ Ok (tt, rest) → ts ≡ kind.Mark m ∷ rest
  unfolding expect_mark
  expected ts rest h = by_test (sees_mark m ts)
      (λ yes. mark_is ts yes ∙ ap (λ us. kind.Mark m ∷ us)
      (ap (λ p. p.1) (ok_ok (tt, drop 1 ts) (tt, rest) (sym (ap (λ b. (if b then Ok (tt, drop 1 ts) else Err NotYet)) yes) ∙ h))))
      (λ no. absurd (err_ok NotYet (tt, rest) (sym (ap (λ b. (if b then Ok (tt, drop 1 ts) else Err NotYet)) no) ∙ h)))

module _ (w : Word) (only : (v : Word) → (word_eq.ghosts).eq v w ≡ true → v ≡ w) where
  pub word_is : (ts : List Kind) → sees_word w ts ≡ true → ts ≡ kind.Word w ∷ drop 1 ts
  unfolding sees_word
  word_is [] h = absurd (false_true h)
  word_is (kind.Word v ∷ ts) h = ap (λ v. kind.Word v ∷ ts) (only v h)
  word_is (_ ∷ ts) h = absurd (false_true h)

pub name_next : (ts : List Kind) → sees_name ts ≡ true → (n : List ℕ) × (ts ≡ kind.Name n ∷ drop 1 ts)
unfolding sees_name
name_next [] h = absurd (false_true h)
name_next (kind.Name n ∷ ts) h = (n, refl)
name_next (_ ∷ ts) h = absurd (false_true h)

-- ---- expressions
-- tokens of an application, and those that are left
abbrev pub Found : ℕ → Application → List Kind → List Kind → Type 0
Found d a ts rest = (ks : List Kind) × (ts ≡ ks ++ rest) × IsApplication d a ks

abbrev pub FoundAll : ℕ → List Application → List Application → List Kind → List Kind → Type 0
FoundAll d found all ts rest = (ks : List Kind) × (as' : List Application) × (ts ≡ ks ++ rest) × (all ≡ found ++ as') × AreArguments d as' ks

-- what a reader of arguments may find
abbrev pub Answer : ℕ → Option Application → List Kind → List Kind → Type 0
Answer d None ts rest = ts ≡ rest
Answer d (Some a) ts rest = (ks : List Kind) × (ts ≡ ks ++ rest) × ((as' : List Application) (js : List Kind) → AreArguments d as' js → AreArguments d (a ∷ as') (ks ++ js))

nothing_more : {d : ℕ} (found all : List Application) (ts rest : List Kind) → ◌≡◌ {A = List Application × List Kind} (found, ts) (all, rest) → FoundAll d found all ts rest
nothing_more found all ts rest e = ([], [], ap (λ q. q.1) e, sym (ap (λ q. q.0) e) ∙ sym (append-nil found), no_argument)

module _ (d : ℕ) (inner : (a : Application) (ts rest : List Kind) → expression d ts ≡ Ok (a, rest) → Found d a ts rest) where
  alone : (ts rest : List Kind) (o : Option Application) → (name >>= (λ given. λ us. Ok (Some (application.Apply given []), us))) ts ≡ Ok (o, rest) → Answer d o ts rest
  alone ts rest o h =
      let p = in_turn (name ts) (λ given us. Ok (Some (application.Apply given []), us)) o rest h in
      let e = ok_ok (Some (application.Apply p.0.0 []), p.0.1) (o, rest) p.2 in
      let is : ts ≡ kind.Name p.0.0 ∷ rest = name_is ts p.0.0 p.0.1 p.1 ∙ ap (λ q. kind.Name p.0.0 ∷ q.1) e in
      subst (λ o. Answer d o ts rest) (ap (λ q. q.0) e) (kind.Name p.0.0 ∷ [], is, λ as' js g. name_alone p.0.0 g)

  inside : (us rest : List Kind) (o : Option Application)
      → (expression d >>= (λ given. expect_mark mark.RightParen >>= (λ _. λ us. Ok (Some given, us)))) us ≡ Ok (o, rest) → Answer d o (left ∷ us) rest
  inside us rest o h =
      let p = in_turn (expression d us) (λ given. expect_mark mark.RightParen >>= (λ _. λ us. Ok (Some given, us))) o rest h in
      let q = in_turn (expect_mark mark.RightParen p.0.1) (λ _. λ us. Ok (Some p.0.0, us)) o rest p.2 in
      let e = ok_ok (Some p.0.0, q.0.1) (o, rest) q.2 in
      let closed : p.0.1 ≡ right ∷ rest = expected mark.RightParen right_only p.0.1 q.0.1 q.1 ∙ ap (λ r. right ∷ r.1) e in
      let f = inner p.0.0 us p.0.1 p.1 in
      let is : left ∷ us ≡ left ∷ ((f.0 ++ right ∷ []) ++ rest) = ap (λ ts. left ∷ ts) (f.1 ∙ ap (λ ts. f.0 ++ ts) closed ∙ sym (append_assoc f.0 (right ∷ []) rest)) in
      subst (λ o. Answer d o (left ∷ us) rest) (ap (λ q. q.0) e)
      (left ∷ (f.0 ++ right ∷ []), is, λ as' js g. subst (λ ts. AreArguments d (p.0.0 ∷ as') (left ∷ ts)) (sym (append_assoc f.0 (right ∷ []) js)) (in_parentheses f.2 g))

  argument_is : (ts rest : List Kind) (o : Option Application) → one_argument (expression d) ts ≡ Ok (o, rest) → Answer d o ts rest
  unfolding one_argument
  argument_is ts rest o h =
      let first : Outcome (Option Application) = (name >>= (λ given. λ us. Ok (Some (application.Apply given []), us))) ts in
      let second : Outcome (Option Application) = (expression d >>= (λ given. expect_mark mark.RightParen >>= (λ _. λ us. Ok (Some given, us)))) (drop 1 ts) in
      let third : Outcome (Option Application) = Ok (None, ts) in
      let later : Outcome (Option Application) = if sees_mark mark.LeftParen ts then second else third in
      by_test (sees_name ts)
      (λ yes. alone ts rest o (taken first later (sees_name ts) yes h))
      (λ no. by_test (sees_mark mark.LeftParen ts)
      (λ yes. subst (λ us. Answer d o us rest) (sym (mark_is mark.LeftParen left_only ts yes))
      (inside (drop 1 ts) rest o (taken second third (sees_mark mark.LeftParen ts) yes (not_taken first later (sees_name ts) no h))))
      (λ none. let e = ok_ok (None, ts) (o, rest) (not_taken second third (sees_mark mark.LeftParen ts) none (not_taken first later (sees_name ts) no h)) in
      subst (λ o. Answer d o ts rest) (ap (λ q. q.0) e) (ap (λ q. q.1) e)))

  and_more : (n : ℕ) → ((found all : List Application) (ts rest : List Kind) → arguments_from (expression d) n found ts ≡ Ok (all, rest) → FoundAll d found all ts rest)
      → (found all : List Application) (ts us rest : List Kind) (o : Option Application) → Answer d o ts us
      → go_on (arguments_from (expression d) n) found o us ≡ Ok (all, rest) → FoundAll d found all ts rest
  and_more n fewer found all ts us rest None same h =
      subst (λ ts. FoundAll d found all ts rest) (sym same) (nothing_more found all us rest (ok_ok (found, us) (all, rest) h))
  and_more n fewer found all ts us rest (Some a) x h =
      let f = fewer (found ++ a ∷ []) all us rest h in
      (x.0 ++ f.0, a ∷ f.1, x.1 ∙ ap (λ us. x.0 ++ us) f.2 ∙ sym (append_assoc x.0 f.0 rest), f.3 ∙ append_assoc found (a ∷ []) f.1, x.2 f.1 f.0 f.4)

  arguments_are : (n : ℕ) (found all : List Application) (ts rest : List Kind) → arguments_from (expression d) n found ts ≡ Ok (all, rest) → FoundAll d found all ts rest
  unfolding arguments_from
  arguments_are zero found all ts rest h = nothing_more found all ts rest (ok_ok (found, ts) (all, rest) h)
  arguments_are (suc n) found all ts rest h =
      let p = in_turn (one_argument (expression d) ts) (go_on (arguments_from (expression d) n) found) all rest h in
      and_more n (arguments_are n) found all ts p.0.1 rest p.0.0 (argument_is ts p.0.1 p.0.0 p.1) p.2

pub application_is : (d : ℕ) (a : Application) (ts rest : List Kind) → expression d ts ≡ Ok (a, rest) → Found d a ts rest
unfolding expression level
application_is zero a ts rest h = absurd (err_ok NotYet (a, rest) h)
application_is (suc d) a ts rest h =
    let p = in_turn (name ts) (λ given. (λ us. arguments_from (expression d) (length us) [] us) >>= (λ found us. Ok (application.Apply given found, us))) a rest h in
    let q = in_turn (arguments_from (expression d) (length p.0.1) [] p.0.1) (λ found us. Ok (application.Apply p.0.0 found, us)) a rest p.2 in
    let e = ok_ok (application.Apply p.0.0 q.0.0, q.0.1) (a, rest) q.2 in
    let f = arguments_are d (application_is d) (length p.0.1) [] q.0.0 p.0.1 q.0.1 q.1 in
    let is : ts ≡ kind.Name p.0.0 ∷ (f.0 ++ rest) = name_is ts p.0.0 p.0.1 p.1 ∙ ap (λ us. kind.Name p.0.0 ∷ us) (f.2 ∙ ap (λ r. f.0 ++ r.1) e) in
    let tree : application.Apply p.0.0 f.1 ≡ a = ap (application.Apply p.0.0) (sym f.3) ∙ ap (λ r. r.0) e in
    (kind.Name p.0.0 ∷ f.0, is, subst (λ a. IsApplication (suc d) a (kind.Name p.0.0 ∷ f.0)) tree (applied p.0.0 f.4))

-- ---- premises and conclusions
abbrev pub PremiseAnswer : Option Premise → List Kind → List Kind → Type 0
PremiseAnswer None ts rest = ts ≡ rest
PremiseAnswer (Some p) ts rest = (ks : List Kind) × (ts ≡ ks ++ rest) × IsPremise p ks

-- a premise after its parenthesis: its tokens, with the parenthesis that is still to come
abbrev pub InsideOf : Premise → List Kind → List Kind → Type 0
InsideOf p us vs = (js : List Kind) × (us ≡ js ++ vs) × IsPremise p (left ∷ (js ++ right ∷ []))

type_inside : (us vs : List Kind) (n : List ℕ) (ws : List Kind) (p : Premise) → us ≡ kind.Name n ∷ ws → ws ≡ type_word ∷ drop 1 ws
    → ◌≡◌ {A = Premise × List Kind} (premise.Type n, drop 1 ws) (p, vs) → InsideOf p us vs
type_inside us vs n ws p named typed e =
    subst (λ p. InsideOf p us vs) (ap (λ q. q.0) e)
    (kind.Name n ∷ type_word ∷ [], named ∙ ap (λ ts. kind.Name n ∷ ts) (typed ∙ ap (λ q. type_word ∷ q.1) e), type_premise n)

term_inside : (us vs : List Kind) (n : List ℕ) (ws : List Kind) (p : Premise) → us ≡ kind.Name n ∷ ws
    → (expect_mark mark.Colon >>= (λ _. expression 200 >>= (λ a ts. Ok (premise.Term n a, ts)))) ws ≡ Ok (p, vs) → InsideOf p us vs
term_inside us vs n ws p named h =
    let q = in_turn (expect_mark mark.Colon ws) (λ _. expression 200 >>= (λ a ts. Ok (premise.Term n a, ts))) p vs h in
    let r = in_turn (expression 200 q.0.1) (λ a ts. Ok (premise.Term n a, ts)) p vs q.2 in
    let e = ok_ok (premise.Term n r.0.0, r.0.1) (p, vs) r.2 in
    let f = application_is 200 r.0.0 q.0.1 r.0.1 r.1 in
    let is : us ≡ kind.Name n ∷ colon ∷ (f.0 ++ vs) =
    named ∙ ap (λ ts. kind.Name n ∷ ts) (expected mark.Colon colon_only ws q.0.1 q.1)
    ∙ ap (λ ts. kind.Name n ∷ colon ∷ ts) (f.1 ∙ ap (λ x. f.0 ++ x.1) e) in
    subst (λ p. InsideOf p us vs) (ap (λ x. x.0) e) (kind.Name n ∷ colon ∷ f.0, is, term_premise n f.2)

pub inside_is : (us vs : List Kind) (p : Premise) → premise_inside us ≡ Ok (p, vs) → InsideOf p us vs
unfolding premise_inside
inside_is us vs p h =
    let q = in_turn (name us) (λ given ts. (if sees_word word.TypeWord ts then (λ ws. Ok (premise.Type given, drop 1 ws)) else (expect_mark mark.Colon >>= (λ _. expression 200 >>= (λ a ts. Ok (premise.Term given a, ts))))) ts) p vs h in
    let named = name_is us q.0.0 q.0.1 q.1 in
    let typed : Reader Premise = λ ws. Ok (premise.Type q.0.0, drop 1 ws) in
    let of_type : Reader Premise = expect_mark mark.Colon >>= (λ _. expression 200 >>= (λ a ts. Ok (premise.Term q.0.0 a, ts))) in
    by_test (sees_word word.TypeWord q.0.1)
    (λ yes. type_inside us vs q.0.0 q.0.1 p named (word_is word.TypeWord type_only q.0.1 yes)
    (ok_ok (premise.Type q.0.0, drop 1 q.0.1) (p, vs) (sym (ap (λ b. (if b then typed else of_type) q.0.1) yes) ∙ q.2)))
    (λ no. term_inside us vs q.0.0 q.0.1 p named (sym (ap (λ b. (if b then typed else of_type) q.0.1) no) ∙ q.2))
