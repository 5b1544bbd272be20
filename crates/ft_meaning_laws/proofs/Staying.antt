-- The text of a sequent stays where the list goes on.
use Rattle.std.proofs.Common.{◌≡◌, ◌∙◌, sym, ap, ap₂, refl, ℕ, zero, suc, ◌+◌, nat_eq, nat_lt, Bool, true, false, cond, Option, Some, None, option_map, List, [], ◌∷◌, ◌++◌, map, filter, length, codes, decimal}
use Rattle.ft_common.proofs.Options.{none_some}
use Rattle.ft_theory.specs.Expressions.{Expression, bound, free, symbol, meta, Arguments, no_arguments, with_body, dummy, Terms, no_terms, also}
use Rattle.ft_theory.specs.Statements.{Claim, is_type, has_type, equal_types, equal_terms, type_goal, term_goal, type_equation_goal, term_equation_goal, Statement, plain, abstracted}
use Rattle.ft_theory.specs.Rules.{look_up}
use Rattle.ft_items.specs.Sets.{Atom, met, var}
use Rattle.ft_items.specs.Item.{Name, Item, variable, metavariable, rule, entry, shown}
use Rattle.ft_items.specs.Store.{Assertion, Annotation, Declared, Declarations, Store, nth, each, entry_named, metavariable_named, declared_variable, declared_metavariable, add_variable, add_metavariable, add_rule, empty_store, add, add_all, store_of, declared_by}
use Rattle.ft_items.proofs.Lists.{nth_before, store_append}
use Rattle.ft_meaning.specs.Texts.{Text, name_if_any, variables, joined, in_parentheses, binders_text, metavariable_text, variable_text, expression_text, argument_texts, term_texts, sides_text, of_type_text, claim_text, statement_text, metavariable_member, variable_member, member_text, context_text, sequent_text}
use Rattle.ft_meaning_laws.specs.Texts.{NamesDeclared, ArgumentsDeclared, TermsDeclared, ClaimDeclared, StatementDeclared, MemberDeclared, MembersDeclared, TextsStay}

-- what is declared stays declared
record Stays (W X : Declarations) : Type 0 where
  pub names : (s : ℕ) (n : Name) → nth W.names s ≡ Some n → nth X.names s ≡ Some n
  pub metavariables : (m : ℕ) (d : Declared) → nth W.metavariables m ≡ Some d → nth X.metavariables m ≡ Some d
  pub variables : (v : ℕ) (d : Annotation) → look_up W.variables v ≡ Some d → look_up X.variables v ≡ Some d

module _ (W X : Declarations) (h : Stays W X) (vs : List ℕ) where
  metavariable_stays : (m : ℕ) (d : Declared) → nth W.metavariables m ≡ Some d → metavariable_text X vs m ≡ metavariable_text W vs m
  metavariable_stays m d e = ap (λ o. name_if_any (option_map (λ d. d.name) o) ++ codes "?" ++ decimal m) (h.metavariables m d e ∙ sym e)

  variable_stays : (v : ℕ) (d : Annotation) → look_up W.variables v ≡ Some d → variable_text X vs v ≡ variable_text W vs v
  variable_stays v d e = ap (λ o. name_if_any (option_map (λ d. d.name) o) ++ codes "#" ++ decimal (length (filter (λ w. nat_lt w v) vs))) (h.variables v d e ∙ sym e)

  mutual
    expression_stays : (n : ℕ) (e : Expression) → NamesDeclared W e → expression_text X vs n e ≡ expression_text W vs n e
    expression_stays n (bound i) d = refl
    expression_stays n (free v) d = variable_stays v d.0 d.1
    expression_stays n (symbol s a) d = ap₂ (λ o ts. name_if_any o ++ in_parentheses ts) (h.names s d.0.0 d.0.1 ∙ sym d.0.1) (arguments_stay n a d.1)
    expression_stays n (meta m ts) d = ap₂ (λ t xs. t ++ in_parentheses xs) (metavariable_stays m d.0.0 d.0.1) (terms_stay n ts d.1)

    arguments_stay : (n : ℕ) (a : Arguments) → ArgumentsDeclared W a → argument_texts X vs n a ≡ argument_texts W vs n a
    arguments_stay n no_arguments d = refl
    arguments_stay n (with_body k e a) d = ap₂ (λ t ts. (binders_text n k ++ t) ∷ ts) (expression_stays (n + k) e d.0) (arguments_stay n a d.1)
    arguments_stay n (dummy k a) d = ap (λ ts. (binders_text n k ++ codes "*") ∷ ts) (arguments_stay n a d)

    terms_stay : (n : ℕ) (ts : Terms) → TermsDeclared W ts → term_texts X vs n ts ≡ term_texts W vs n ts
    terms_stay n no_terms d = refl
    terms_stay n (also t ts) d = ap₂ (λ x xs. x ∷ xs) (expression_stays n t d.0) (terms_stay n ts d.1)

  type_stays : (n : ℕ) (A : Expression) → NamesDeclared W A → of_type_text X vs n A ≡ of_type_text W vs n A
  type_stays n A d = ap (λ t. codes " : " ++ t) (expression_stays n A d)

  sides_stay : (n : ℕ) (e f : Expression) → NamesDeclared W e → NamesDeclared W f → sides_text X vs n e f ≡ sides_text W vs n e f
  sides_stay n e f d c = ap₂ (λ t u. t ++ codes " == " ++ u) (expression_stays n e d) (expression_stays n f c)

  claim_stays : (n : ℕ) (c : Claim) → ClaimDeclared W c → claim_text X vs n c ≡ claim_text W vs n c
  claim_stays n (is_type A) d = ap (λ t. t ++ codes " type") (expression_stays n A d)
  claim_stays n (has_type t A) d = ap₂ (λ x y. x ++ y) (expression_stays n t d.0) (type_stays n A d.1)
  claim_stays n (equal_types A B) d = sides_stay n A B d.0 d.1
  claim_stays n (equal_terms s t A) d = ap₂ (λ x y. x ++ y) (sides_stay n s t d.0 d.1) (type_stays n A d.2)
  claim_stays n type_goal d = refl
  claim_stays n (term_goal A) d = ap (λ t. codes "_" ++ t) (type_stays n A d)
  claim_stays n (type_equation_goal A B) d = sides_stay n A B d.0 d.1
  claim_stays n (term_equation_goal s t A) d = ap₂ (λ x y. x ++ y) (sides_stay n s t d.0 d.1) (type_stays n A d.2)

  statement_stays : (n : ℕ) (x : Statement) → StatementDeclared W x → statement_text X vs n x ≡ statement_text W vs n x
  statement_stays n (plain c) d = claim_stays n c d
  statement_stays n (abstracted A x) d = ap₂ (λ t u. codes "{@" ++ decimal n ++ t ++ codes "} " ++ u) (type_stays n A d.0) (statement_stays (suc n) x d.1)

  member_stays : (a : Atom) → MemberDeclared W a → member_text X vs a ≡ member_text W vs a
  member_stays (met m) d =
      ap (metavariable_member X vs m) (h.metavariables m d.0 d.1)
      ∙ ap₂ (λ t u. t ++ codes " := " ++ u) (metavariable_stays m d.0 d.1) (statement_stays zero d.0.boundary d.2)
      ∙ sym (ap (metavariable_member W vs m) d.1)
  member_stays (var v) d =
      ap (variable_member X vs v) (h.variables v d.0 d.1)
      ∙ ap₂ (λ t u. t ++ u) (variable_stays v d.0 d.1) (type_stays zero d.0.annotation d.2)
      ∙ sym (ap (variable_member W vs v) d.1)

  members_stay : (S : List Atom) → MembersDeclared W S → map (member_text X vs) S ≡ map (member_text W vs) S
  members_stay [] d = refl
  members_stay (a ∷ S) d = ap₂ (λ t ts. t ∷ ts) (member_stays a d.0) (members_stay S d.1)

  context_stays : (S : List Atom) → MembersDeclared W S → context_text X vs S ≡ context_text W vs S
  context_stays [] d = refl
  context_stays (a ∷ S) d = ap (λ ts. joined ts ++ codes " ") (members_stay (a ∷ S) d)

-- a longer list declares all that it did

names_rule : (W : Declarations) (n : Name) (os : Option (List (ℕ × Declared))) (o : Option Assertion) (s : ℕ) (k : Name) → nth W.names s ≡ Some k → nth (add_rule W n os o).names s ≡ Some k
names_rule W n None o s k e = e
names_rule W n (Some ds) None s k e = e
names_rule W n (Some ds) (Some a) s k e = nth_before W.names (n ∷ []) s k e

look_before : (xs ys : List (ℕ × Annotation)) (v : ℕ) (d : Annotation) → look_up xs v ≡ Some d → look_up (xs ++ ys) v ≡ Some d
look_before [] ys v d e = none_some e
look_before (x ∷ xs) ys v d e = go (nat_eq v x.0) e (look_before xs ys v d)
  where
    go : (b : Bool) → cond b (Some x.1) (look_up xs v) ≡ Some d → (look_up xs v ≡ Some d → look_up (xs ++ ys) v ≡ Some d) → cond b (Some x.1) (look_up (xs ++ ys) v) ≡ Some d
    go true e ih = e
    go false e ih = ih e

variables_variable : (W : Declarations) (w : ℕ) (n : Name) (o : Option Assertion) (v : ℕ) (d : Annotation) → look_up W.variables v ≡ Some d → look_up (add_variable W w n o).variables v ≡ Some d
variables_variable W w n None v d e = e
variables_variable W w n (Some a) v d e = look_before W.variables ((w, declared_variable n a) ∷ []) v d e

names_variable : (W : Declarations) (w : ℕ) (n : Name) (o : Option Assertion) (s : ℕ) (k : Name) → nth W.names s ≡ Some k → nth (add_variable W w n o).names s ≡ Some k
names_variable W w n None s k e = e
names_variable W w n (Some a) s k e = e

metavariables_variable : (W : Declarations) (w : ℕ) (n : Name) (o : Option Assertion) (m : ℕ) (d : Declared) → nth W.metavariables m ≡ Some d → nth (add_variable W w n o).metavariables m ≡ Some d
metavariables_variable W w n None m d e = e
metavariables_variable W w n (Some a) m d e = e

names_metavariable : (W : Declarations) (n : Name) (o : Option Assertion) (s : ℕ) (k : Name) → nth W.names s ≡ Some k → nth (add_metavariable W n o).names s ≡ Some k
names_metavariable W n None s k e = e
names_metavariable W n (Some a) s k e = e

metavariables_metavariable : (W : Declarations) (n : Name) (o : Option Assertion) (m : ℕ) (d : Declared) → nth W.metavariables m ≡ Some d → nth (add_metavariable W n o).metavariables m ≡ Some d
metavariables_metavariable W n None m d e = e
metavariables_metavariable W n (Some a) m d e = nth_before W.metavariables (declared_metavariable n a ∷ []) m d e

variables_metavariable : (W : Declarations) (n : Name) (o : Option Assertion) (v : ℕ) (d : Annotation) → look_up W.variables v ≡ Some d → look_up (add_metavariable W n o).variables v ≡ Some d
variables_metavariable W n None v d e = e
variables_metavariable W n (Some a) v d e = e

metavariables_rule : (W : Declarations) (n : Name) (os : Option (List (ℕ × Declared))) (o : Option Assertion) (m : ℕ) (d : Declared) → nth W.metavariables m ≡ Some d → nth (add_rule W n os o).metavariables m ≡ Some d
metavariables_rule W n None o m d e = e
metavariables_rule W n (Some ds) None m d e = e
metavariables_rule W n (Some ds) (Some a) m d e = e

variables_rule : (W : Declarations) (n : Name) (os : Option (List (ℕ × Declared))) (o : Option Assertion) (v : ℕ) (d : Annotation) → look_up W.variables v ≡ Some d → look_up (add_rule W n os o).variables v ≡ Some d
variables_rule W n None o v d e = e
variables_rule W n (Some ds) None v d e = e
variables_rule W n (Some ds) (Some a) v d e = e

same : (W : Declarations) → Stays W W
same W = record { names = λ s k e. e; metavariables = λ m d e. e; variables = λ v d e. e }

stays_add : (X : Store) (i : Item) → Stays X.declarations (add X i).declarations
stays_add X (variable w n p) =
    let W : Declarations = X.declarations in
    let o : Option Assertion = entry_named X p in
    record { names = names_variable W w n o; metavariables = metavariables_variable W w n o; variables = variables_variable W w n o }
stays_add X (metavariable n p) =
    let W : Declarations = X.declarations in
    let o : Option Assertion = entry_named X p in
    record { names = names_metavariable W n o; metavariables = metavariables_metavariable W n o; variables = variables_metavariable W n o }
stays_add X (rule n ms p) =
    let W : Declarations = X.declarations in
    let os : Option (List (ℕ × Declared)) = each (metavariable_named W) ms in
    let o : Option Assertion = entry_named X p in
    record { names = names_rule W n os o; metavariables = metavariables_rule W n os o; variables = variables_rule W n os o }
stays_add X (entry x) = same X.declarations
stays_add X (shown p) = same X.declarations

stays_all : (X : Store) (items : List Item) → Stays X.declarations (add_all X items).declarations
stays_all X [] = same X.declarations
stays_all X (i ∷ items) =
    let f : Stays X.declarations (add X i).declarations = stays_add X i in
    let g : Stays (add X i).declarations (add_all (add X i) items).declarations = stays_all (add X i) items in
    record {
      names = λ s k e. g.names s k (f.names s k e);
      metavariables = λ m d e. g.metavariables m d (f.metavariables m d e);
      variables = λ v d e. g.variables v d (f.variables v d e);
    }

pub texts_stay : TextsStay
texts_stay items more p d =
    let W : Declarations = declared_by items in
    let X : Declarations = (add_all (store_of items) more).declarations in
    let h : Stays W X = stays_all (store_of items) more in
    let vs : List ℕ = variables p.set in
    ap (λ (Y : Store). sequent_text Y.declarations p) (store_append empty_store items more)
    ∙ ap₂ (λ t u. t ++ codes "|- " ++ u) (context_stays W X h vs p.set d.0) (statement_stays W X h vs zero p.statement d.1)
