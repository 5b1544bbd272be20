-- The kinds of lines that are found by their number: entries, metavariables and rules.
use Rattle.std.proofs.Common.{◌≡◌, ℕ, suc, ◌+◌, Bool, true, false, cond, Option, Some, List, [], ◌∷◌, refl, sym, ap, ◌∙◌, length, map}
use Rattle.std.proofs.lemmas.List.{length-map}
use Rattle.ft_theory.specs.Expressions.{Expression}
use Rattle.ft_items.specs.Item.{Name, Item}
use Rattle.ft_items.specs.Store.{Assertion, entries_in, metavariables_in, rules_in}
use Rattle.ft_kernel.specs.Lines.{item_in, items_in, is_entry, is_metavariable, is_rule, places, assertion_in, added_metavariable, added_rule}
use Rattle.ft_kernel.specs.declared.line.Content.{Content}
use Rattle.ft_kernel.specs.declared.line.Content.TheVariants.{Variable, Metavariable, Rule, Thesis, Boundary, Shown}
use Rattle.ft_kernel.specs.declared.line.Line.{Line}

-- which contents are of the kind, what each adds to a list, and what a list has of the kind
pub record Kind (A : Type 0) : Type 0 where
  pub passes : Content → Bool
  pub adds : List Expression → Content → Option A
  pub all : List Item → List A
  pub none : all [] ≡ []
  pub one : (ts : List Expression) (c : Content) (items : List Item) → map Some (all (item_in ts c ∷ items)) ≡ cond (passes c) (adds ts c ∷ map Some (all items)) (map Some (all items))

-- what one more item adds
pub one_entry : (ts : List Expression) (c : Content) (items : List Item) → map Some (entries_in (item_in ts c ∷ items)) ≡ cond (is_entry c) (assertion_in ts c ∷ map Some (entries_in items)) (map Some (entries_in items))
one_entry ts (Variable x) items = refl
one_entry ts (Metavariable x) items = refl
one_entry ts (Rule x) items = refl
one_entry ts (Thesis x S s) items = refl
one_entry ts (Boundary x S s) items = refl
one_entry ts (Shown j) items = refl

pub one_metavariable : (ts : List Expression) (c : Content) (items : List Item)
    → map Some (metavariables_in (item_in ts c ∷ items)) ≡ cond (is_metavariable c) (added_metavariable c ∷ map Some (metavariables_in items)) (map Some (metavariables_in items))
one_metavariable ts (Variable x) items = refl
one_metavariable ts (Metavariable x) items = refl
one_metavariable ts (Rule x) items = refl
one_metavariable ts (Thesis x S s) items = refl
one_metavariable ts (Boundary x S s) items = refl
one_metavariable ts (Shown j) items = refl

pub one_rule : (ts : List Expression) (c : Content) (items : List Item) → map Some (rules_in (item_in ts c ∷ items)) ≡ cond (is_rule c) (added_rule c ∷ map Some (rules_in items)) (map Some (rules_in items))
one_rule ts (Variable x) items = refl
one_rule ts (Metavariable x) items = refl
one_rule ts (Rule x) items = refl
one_rule ts (Thesis x S s) items = refl
one_rule ts (Boundary x S s) items = refl
one_rule ts (Shown j) items = refl

abbrev pub entries : Kind Assertion
entries = record { passes = is_entry; adds = assertion_in; all = entries_in; none = refl; one = one_entry }

abbrev pub metavariables : Kind (Name × ℕ)
metavariables = record { passes = is_metavariable; adds = λ ts c. added_metavariable c; all = metavariables_in; none = refl; one = one_metavariable }

abbrev pub rules : Kind (Name × List ℕ × ℕ)
rules = record { passes = is_rule; adds = λ ts c. added_rule c; all = rules_in; none = refl; one = one_rule }

-- the lines of a kind
abbrev pub passing : (Content → Bool) → List Line → List Line
passing p [] = []
passing p (l ∷ ls) = cond (p l.content) (l ∷ passing p ls) (passing p ls)

-- what a list has of a kind is what its lines add
pub kind_passing : {A : Type 0} (K : Kind A) (ts : List Expression) (ls : List Line) → map Some (K.all (items_in ts ls)) ≡ map (λ (l : Line). K.adds ts l.content) (passing K.passes ls)
kind_passing K ts [] = ap (map Some) K.none
kind_passing K ts (l ∷ ls) = K.one ts l.content (items_in ts ls) ∙ go (K.passes l.content) (kind_passing K ts ls)
  where
    go : (b : Bool) → map Some (K.all (items_in ts ls)) ≡ map (λ (l : Line). K.adds ts l.content) (passing K.passes ls)
        → cond b (K.adds ts l.content ∷ map Some (K.all (items_in ts ls))) (map Some (K.all (items_in ts ls))) ≡ map (λ (l : Line). K.adds ts l.content) (cond b (l ∷ passing K.passes ls) (passing K.passes ls))
    go true h = ap (λ os. K.adds ts l.content ∷ os) h
    go false h = h

-- the lines of a kind are as many as what the list has of it
pub many_passing : {A : Type 0} (K : Kind A) (ts : List Expression) (ls : List Line) → length (passing K.passes ls) ≡ length (K.all (items_in ts ls))
many_passing K ts ls =
    sym (length-map (passing K.passes ls) (λ (l : Line). K.adds ts l.content)) ∙ sym (ap length (kind_passing K ts ls))
    ∙ length-map (K.all (items_in ts ls)) Some

places_passing : (p : Content → Bool) (k : ℕ) (ls : List Line) → length (places p k ls) ≡ length (passing p ls)
places_passing p k [] = refl
places_passing p k (l ∷ ls) = go (p l.content) (places_passing p (k + 1) ls)
  where
    go : (b : Bool) → length (places p (k + 1) ls) ≡ length (passing p ls) → length (cond b (k ∷ places p (k + 1) ls) (places p (k + 1) ls)) ≡ length (cond b (l ∷ passing p ls) (passing p ls))
    go true h = ap suc h
    go false h = h

-- and so are their places
pub many_places : {A : Type 0} (K : Kind A) (ts : List Expression) (ls : List Line) (xs : List ℕ) → xs ≡ places K.passes 0 ls → length xs ≡ length (K.all (items_in ts ls))
many_places K ts ls xs e = ap length e ∙ places_passing K.passes 0 ls ∙ many_passing K ts ls
