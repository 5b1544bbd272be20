-- What a reader finds, in terms of what is seen of the kernel.
use Rattle.std.proofs.Common.{◌≡◌, ℕ, ◌+◌, ◌-◌, ◌<◌, nat_eq, true, Some, None, List, sym, ap, ◌∙◌, subst, length, get_or, take, arith, inl, inr}
use Rattle.std.specs.Map.{lookup}
use Rattle.std.specs.Prelude.{option_map}
use Rattle.std.proofs.lemmas.List.{take-map}
use Rattle.ft_theory.specs.Expressions.{Expression}
use Rattle.ft_items.specs.Item.{Name, variable}
use Rattle.ft_items.specs.Store.{nth, variables_in}
use Rattle.ft_judge.specs.Meaning.{thesis_in, boundary_in}
use Rattle.ft_judge.specs.Laws.{thesis_is, boundary_is}
use Rattle.ft_kernel.specs.State.{State, variable_numbered}
use Rattle.ft_kernel.specs.Lines.{item_in, items_in, ContentBelow, AllLinesBelow, is_entry, is_metavariable, is_rule, places, place_numbered, AreNumbered}
use Rattle.ft_kernel.specs.Shown.{IsShownAs, ShowsLine}
use Rattle.ft_kernel.specs.declared.item.VarItem.{VarItem}
use Rattle.ft_kernel.specs.declared.item.Item.{Item as ItemShown}
use Rattle.ft_kernel.specs.declared.item.Item.TheVariants as item
use Rattle.ft_kernel.specs.declared.line.Content.{Content}
use Rattle.ft_kernel.specs.declared.line.Content.TheVariants.{Variable}
use Rattle.ft_kernel.specs.declared.line.Line.{Line}
use Rattle.ft_kernel.proofs.LineKinds.{Kind, entries, metavariables, rules, passing, many_passing, many_places}
use Rattle.ft_kernel.proofs.Found.{read, below_at, FoundVariable, Decided, variable_decided, numbered_at, item_at}

-- what is seen
abbrev pub seen : List Expression → List Line → State
seen ts ls = record { trees = ts; items = items_in ts ls }

pub within : {A : Type 0} (K : Kind A) (ts : List Expression) (ls : List Line) (xs : List ℕ) (s : State) (n : ℕ) → xs ≡ places K.passes 0 ls → seen ts ls ≡ s → n < length (K.all s.items) → n < length xs
within K ts ls xs s n e v h = subst (λ k. n < k) (ap (λ (s : State). length (K.all s.items)) (sym v) ∙ sym (many_places K ts ls xs e)) h

pub answered : {A : Type 0} (K : Kind A) (ts : List Expression) (ls : List Line) (xs : List ℕ) (s : State) (n x : ℕ) (l : Line) → xs ≡ places K.passes 0 ls → seen ts ls ≡ s → n < length xs → x ≡ get_or xs n x → l ≡ get_or ls x l
    → K.adds s.trees l.content ≡ nth (K.all s.items) n
answered K ts ls xs s n x l e v h is at = subst (λ (s : State). K.adds s.trees l.content ≡ nth (K.all s.items) n) v (read K ts ls xs n x l e h is at)

-- the same, by a number that is read
pub within_at : {A : Type 0} (K : Kind A) (ts : List Expression) (ls : List Line) (xs : List ℕ) (s : State) (n m : ℕ) → xs ≡ places K.passes 0 ls → seen ts ls ≡ s → m ≡ n → n < length (K.all s.items) → m < length xs
within_at K ts ls xs s n m e v r h = subst (λ k. k < length xs) (sym r) (within K ts ls xs s n e v h)

pub answered_at : {A : Type 0} (K : Kind A) (ts : List Expression) (ls : List Line) (xs : List ℕ) (s : State) (n m x : ℕ) (l : Line) → xs ≡ places K.passes 0 ls → seen ts ls ≡ s → m ≡ n → n < length (K.all s.items)
    → x ≡ get_or xs m x → l ≡ get_or ls x l → K.adds s.trees l.content ≡ nth (K.all s.items) n
answered_at K ts ls xs s n m x l e v r h is at = answered K ts ls xs s m x l e v (within_at K ts ls xs s n m e v r h) is at ∙ ap (nth (K.all s.items)) r

pub content_below : (ts : List Expression) (ls : List Line) (s : State) (x : ℕ) (l : Line) → seen ts ls ≡ s → AllLinesBelow (length ts) ls → x < length ls → l ≡ get_or ls x l → ContentBelow (length s.trees) l.content
content_below ts ls s x l v h lt at = subst (λ (s : State). ContentBelow (length s.trees) l.content) v (subst (λ (l : Line). ContentBelow (length ts) l.content) (sym at) (below_at (length ts) ls x l h lt))

-- the variable of a number
pub record AnsweredVariable (ls : List Line) (s : State) (v i : ℕ) (l : Line) (x : VarItem) : Type 0 where
  pub within : i < length ls
  pub is : l.content ≡ Variable x
  pub numbered : x.number ≡ v
  pub named : variable_numbered (variables_in s.items) v ≡ Some (x.name, x.ty)

pub variable_answered : (ts : List Expression) (ls : List Line) (vs : List (ℕ × ℕ)) (s : State) (v i : ℕ) → ((v : ℕ) → lookup (nat_eq v) vs ≡ place_numbered 0 ls v) → seen ts ls ≡ s
    → lookup (nat_eq v) vs ≡ Some i → (x : VarItem) × (i < length ls) × ((l : Line) → l ≡ get_or ls i l → AnsweredVariable ls s v i l x)
variable_answered ts ls vs s v i e w h = go (variable_decided ts 0 ls v)
  where
    go : Decided ts 0 ls v → (x : VarItem) × (i < length ls) × ((l : Line) → l ≡ get_or ls i l → AnsweredVariable ls s v i l x)
    go (inl d) = let clash : None ≡ Some i = sym d.0 ∙ sym (e v) ∙ h in cc
    go (inr d) =
        let f : FoundVariable ts 0 ls v d.0 d.1 = d.2 in
        let both : Some d.0 ≡ Some i = sym f.place ∙ sym (e v) ∙ h in
        let same : d.0 ≡ i = cc in
        let less : d.0 - 0 ≡ i = let z : d.0 - 0 ≡ d.0 = omega arith in z ∙ same in
        let lt : i < length ls = subst (λ k. k < length ls) same (omega (arith, f.within)) in (
          d.1,
          lt,
          λ l at. record {
            within = lt;
            is = ap (λ (l : Line). l.content) at ∙ ap (λ k. (get_or ls k l).content) (sym less) ∙ f.here l;
            numbered = f.numbered;
            named = ap (λ (s : State). variable_numbered (variables_in s.items) v) (sym w) ∙ f.named;
          },
        )

pub variable_there : (ts : List Expression) (ls : List Line) (vs : List (ℕ × ℕ)) (s : State) (v : ℕ) (x : Name × ℕ) → ((v : ℕ) → lookup (nat_eq v) vs ≡ place_numbered 0 ls v) → seen ts ls ≡ s
    → variable_numbered (variables_in s.items) v ≡ Some x → (i : ℕ) × (lookup (nat_eq v) vs ≡ Some i)
variable_there ts ls vs s v x e w h = go (variable_decided ts 0 ls v)
  where
    go : Decided ts 0 ls v → (i : ℕ) × (lookup (nat_eq v) vs ≡ Some i)
    go (inl d) = let clash : None ≡ Some x = sym d.1 ∙ ap (λ (s : State). variable_numbered (variables_in s.items) v) w ∙ h in cc
    go (inr d) = let f : FoundVariable ts 0 ls v d.0 d.1 = d.2 in (d.0, e v ∙ f.place)

pub variable_absent : (ts : List Expression) (ls : List Line) (vs : List (ℕ × ℕ)) (s : State) (v : ℕ) → ((v : ℕ) → lookup (nat_eq v) vs ≡ place_numbered 0 ls v) → seen ts ls ≡ s
    → lookup (nat_eq v) vs ≡ None → variable_numbered (variables_in s.items) v ≡ None
variable_absent ts ls vs s v e w h = go (variable_decided ts 0 ls v)
  where
    go : Decided ts 0 ls v → variable_numbered (variables_in s.items) v ≡ None
    go (inl d) = ap (λ (s : State). variable_numbered (variables_in s.items) v) (sym w) ∙ d.1
    go (inr d) = let f : FoundVariable ts 0 ls v d.0 d.1 = d.2 in let clash : None ≡ Some d.0 = sym h ∙ e v ∙ f.place in cc

-- the variable that a content is
pub same_variable : (c : Content) (x y : VarItem) → c ≡ Variable x → c ≡ Variable y → x ≡ y
same_variable c x y e f = let both : Variable x ≡ Variable y = sym e ∙ f in cc

-- an item as it is shown
pub shown_line : (ts : List Expression) (ls : List Line) (s : State) (i : ℕ) (l : Line) → seen ts ls ≡ s → i < length ls → l ≡ get_or ls i l
    → AreNumbered is_entry 0 ls → AreNumbered is_metavariable 0 ls → AreNumbered is_rule 0 ls → (t : ItemShown) → ShowsLine l t → IsShownAs s i t
shown_line ts ls s i l w lt at ne nm nr t h = subst (λ (s : State). IsShownAs s i t) w (go t h)
  where
    here : nth (items_in ts ls) i ≡ Some (item_in ts l.content)
    here = item_at ts ls i l lt ∙ ap (λ (l : Line). Some (item_in ts l.content)) (sym at)

    items_before : items_in ts (take i ls) ≡ take i (items_in ts ls)
    items_before = sym (take-map (λ (l : Line). item_in ts l.content) i ls)

    number_of : {A : Type 0} (K : Kind A) → AreNumbered K.passes 0 ls → K.passes l.content ≡ true → l.number ≡ length (K.all (take i (items_in ts ls)))
    number_of K n e =
        ap (λ (l : Line). l.number) at ∙ numbered_at K.passes 0 ls i l n lt (ap (λ (l : Line). K.passes l.content) (sym at) ∙ e) ∙ none (length (passing K.passes (take i ls)))
        ∙ many_passing K ts (take i ls) ∙ ap (λ X. length (K.all X)) items_before
      where
        none : (n : ℕ) → 0 + n ≡ n
        none n = omega arith

    go : (t : ItemShown) → ShowsLine l t → IsShownAs (seen ts ls) i t
    go (item.Var v) h = (h.0.name, h.0.ty, here ∙ ap (λ c. Some (item_in ts c)) h.1 ∙ ap (λ n. Some (variable n h.0.name h.0.ty)) (sym h.2))
    go (item.Met m) h = (h.0.name, h.0.boundary, here ∙ ap (λ c. Some (item_in ts c)) h.1, h.2 ∙ number_of metavariables nm (ap is_metavariable h.1))
    go (item.Rule r) h = (h.0.name, h.0.premises, h.0.conclusion, here ∙ ap (λ c. Some (item_in ts c)) h.1, h.2 ∙ number_of rules nr (ap is_rule h.1))
    go (item.Thesis j u) h = (thesis_in ts h.0, h.1, here ∙ ap (λ c. Some (item_in ts c)) h.2, thesis_is ts h.0, h.3 ∙ number_of entries ne (ap is_entry h.2))
    go (item.Boundary b u) h = (boundary_in ts h.0, h.1, here ∙ ap (λ c. Some (item_in ts c)) h.2, boundary_is ts h.0, h.3 ∙ number_of entries ne (ap is_entry h.2))
    go (item.Shown j) h = here ∙ ap (λ c. Some (item_in ts c)) h

pub variable_numbered_if : (ts : List Expression) (ls : List Line) (vs : List (ℕ × ℕ)) (s : State) (v i : ℕ) → ((v : ℕ) → lookup (nat_eq v) vs ≡ place_numbered 0 ls v) → seen ts ls ≡ s
    → lookup (nat_eq v) vs ≡ Some i → option_map (λ _. v) (variable_numbered (variables_in s.items) v) ≡ Some v
variable_numbered_if ts ls vs s v i e w h = go (variable_decided ts 0 ls v)
  where
    go : Decided ts 0 ls v → option_map (λ _. v) (variable_numbered (variables_in s.items) v) ≡ Some v
    go (inl d) = let clash : None ≡ Some i = sym d.0 ∙ sym (e v) ∙ h in cc
    go (inr d) = let f : FoundVariable ts 0 ls v d.0 d.1 = d.2 in ap (option_map (λ _. v)) (ap (λ (s : State). variable_numbered (variables_in s.items) v) (sym w) ∙ f.named)
