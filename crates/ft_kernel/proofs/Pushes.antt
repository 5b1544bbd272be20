-- What a kernel keeps, with one more line.
use Rattle.std.proofs.Common.{◌≡◌, ℕ, ◌+◌, max, nat_eq, Bool, true, false, cond, Option, Some, None, List, [], ◌∷◌, ◌++◌, refl, sym, ap, ap₂, ◌∙◌, subst, length, arith}
use Rattle.std.specs.Map.{lookup}
use Rattle.std.specs.Str.{bytes_eq}
use Rattle.std.proofs.lemmas.List.{append-nil, length-map}
use Rattle.ft_theory.specs.Expressions.{Expression}
use Rattle.ft_items.specs.Item.{Name, variable, metavariable, rule, shown}
use Rattle.ft_items.specs.Store.{annotated, nth, empty_store, entries_in, variables_in, rules_in}
use Rattle.ft_items.specs.Good.{Allowed, Good, is_next, is_new, equal_names}
use Rattle.ft_items.proofs.SetLemmas.{wrong}
use Rattle.ft_items.proofs.Lists.{good_last, store_is, annotated_number}
use Rattle.ft_items.proofs.Names.{bytes_eq-names}
use Rattle.ft_kernel.specs.State.{next_number, place_of_name, rule_names}
use Rattle.ft_kernel.specs.Lines.{item_in, items_in, ContentBelow, is_entry, is_metavariable, is_rule, places, place_if_numbered, place_numbered}
use Rattle.ft_kernel.specs.Invariant.{IsKernel}
use Rattle.ft_kernel.specs.declared.line.Content.{Content}
use Rattle.ft_kernel.specs.declared.line.Content.TheVariants.{Variable, Metavariable, Rule, Thesis, Boundary, Shown}
use Rattle.ft_kernel.specs.declared.line.Line.{Line}
use Rattle.ft_kernel.specs.declared.item.VarItem.{VarItem}
use Rattle.ft_kernel.specs.declared.item.MetItem.{MetItem}
use Rattle.ft_kernel.specs.declared.item.RuleItem.{RuleItem}
use Rattle.ft_kernel.proofs.Grows.{items_last, places_more, places_same, numbered_last, below_last, place_same, place_more, variables_last, next_more, none_numbered, names_same, names_more}
use Rattle.ft_kernel.proofs.LineKinds.{rules, many_places}
use Rattle.ft_kernel.proofs.Naming.{place_last}

-- what a content is not
not_counted : (b : Bool) → b ≡ false → {P : Type 0} → b ≡ true → P
not_counted b f {P} t = wrong (sym f ∙ t)

good_more : (ts : List Expression) (ls : List Line) (l : Line) → Good (items_in ts ls) → Allowed (items_in ts ls) (item_in ts l.content) → Good (items_in ts (ls ++ l ∷ []))
good_more ts ls l g a = subst Good (sym (items_last ts ls l)) (good_last empty_store (items_in ts ls) (item_in ts l.content) g a)

next_same : (ts : List Expression) (ls : List Line) (l : Line) → variables_in (item_in ts l.content ∷ []) ≡ [] → next_number (variables_in (items_in ts (ls ++ l ∷ []))) ≡ next_number (variables_in (items_in ts ls))
next_same ts ls l e =
    ap (λ X. next_number (variables_in X)) (items_last ts ls l)
    ∙ ap next_number (variables_last (items_in ts ls) (item_in ts l.content) ∙ ap (λ X. variables_in (items_in ts ls) ++ X) e ∙ append-nil (variables_in (items_in ts ls)))

-- what an entry is not
entry_no_metavariable : (c : Content) → is_entry c ≡ true → is_metavariable c ≡ false
entry_no_metavariable (Variable x) e = refl
entry_no_metavariable (Metavariable x) e = wrong e
entry_no_metavariable (Rule x) e = refl
entry_no_metavariable (Thesis x S s) e = refl
entry_no_metavariable (Boundary x S s) e = refl
entry_no_metavariable (Shown j) e = refl

entry_no_rule : (c : Content) → is_entry c ≡ true → is_rule c ≡ false
entry_no_rule (Variable x) e = refl
entry_no_rule (Metavariable x) e = refl
entry_no_rule (Rule x) e = wrong e
entry_no_rule (Thesis x S s) e = refl
entry_no_rule (Boundary x S s) e = refl
entry_no_rule (Shown j) e = refl

entry_no_place : (c : Content) → is_entry c ≡ true → (v k : ℕ) (later : Option ℕ) → place_if_numbered c k v later ≡ later
entry_no_place (Variable x) e v k later = wrong e
entry_no_place (Metavariable x) e v k later = refl
entry_no_place (Rule x) e v k later = refl
entry_no_place (Thesis x S s) e v k later = refl
entry_no_place (Boundary x S s) e v k later = refl
entry_no_place (Shown j) e v k later = refl

entry_no_variable : (ts : List Expression) (c : Content) → is_entry c ≡ true → variables_in (item_in ts c ∷ []) ≡ []
entry_no_variable ts (Variable x) e = wrong e
entry_no_variable ts (Metavariable x) e = refl
entry_no_variable ts (Rule x) e = refl
entry_no_variable ts (Thesis x S s) e = refl
entry_no_variable ts (Boundary x S s) e = refl
entry_no_variable ts (Shown j) e = refl

-- each rule's name is entered with the rule's number
abbrev NamesAre : List Expression → List Line → List (Name × ℕ) → Type 0
NamesAre ts ls ns = (n : Name) → lookup (bytes_eq n) ns ≡ place_of_name (rule_names (items_in ts ls)) n

names_kept : (ts : List Expression) (ls : List Line) (l : Line) (ns : List (Name × ℕ)) → NamesAre ts ls ns → is_rule l.content ≡ false → NamesAre ts (ls ++ l ∷ []) ns
names_kept ts ls l ns h f n = h n ∙ ap (λ X. place_of_name X n) (sym (names_same ts ls l f))

names_grown : (ts : List Expression) (ls : List Line) (i k : ℕ) (x : RuleItem) (ns ns' : List (Name × ℕ)) → NamesAre ts ls ns → is_new (rule_names (items_in ts ls)) x.name ≡ true → k ≡ length (rule_names (items_in ts ls))
    → ((n : Name) → lookup (bytes_eq n) ns' ≡ cond (bytes_eq x.name n) (Some k) (lookup (bytes_eq n) ns)) → NamesAre ts (ls ++ record { number = i; content = Rule x } ∷ []) ns'
names_grown ts ls i k x ns ns' h new at is_ns n =
    is_ns n
    ∙ ap (λ b. cond b (Some k) (lookup (bytes_eq n) ns)) (bytes_eq-names x.name n)
    ∙ ap₂ (λ j o. cond (equal_names x.name n) (Some j) o) at (h n)
    ∙ sym (ap (λ X. place_of_name X n) (names_more ts ls i x) ∙ place_last (rule_names (items_in ts ls)) x.name n new)

-- a kernel with one more line, that is no variable
more : (ts : List Expression) (ls : List Line) (es ms rs es' ms' rs' : List ℕ) (vs : List (ℕ × ℕ)) (ns ns' : List (Name × ℕ)) (next : ℕ) → IsKernel ts ls es ms rs vs ns next → (l : Line)
    → ContentBelow (length ts) l.content → Allowed (items_in ts ls) (item_in ts l.content)
    → es' ≡ places is_entry 0 (ls ++ l ∷ []) → ms' ≡ places is_metavariable 0 (ls ++ l ∷ []) → rs' ≡ places is_rule 0 (ls ++ l ∷ [])
    → ((v k : ℕ) (later : Option ℕ) → place_if_numbered l.content k v later ≡ later) → variables_in (item_in ts l.content ∷ []) ≡ [] → NamesAre ts (ls ++ l ∷ []) ns'
    → (is_entry l.content ≡ true → l.number ≡ length es) → (is_metavariable l.content ≡ true → l.number ≡ length ms) → (is_rule l.content ≡ true → l.number ≡ length rs)
    → IsKernel ts (ls ++ l ∷ []) es' ms' rs' vs ns' next
more ts ls es ms rs es' ms' rs' vs ns ns' next k l below allowed is_es is_ms is_rs no_place no_variable is_ns ne nm nr = record {
  good = good_more ts ls l k.good allowed;
  below = below_last (length ts) ls l k.below below;
  entries_are = is_es;
  metavariables_are = is_ms;
  rules_are = is_rs;
  variables_are = λ v. k.variables_are v ∙ sym (place_same 0 ls l v (no_place v));
  names_are = is_ns;
  next_is = k.next_is ∙ sym (next_same ts ls l no_variable);
  entries_numbered = numbered_last is_entry 0 0 ls l k.entries_numbered (λ t. ne t ∙ ap length k.entries_are ∙ plus_none (length (places is_entry 0 ls)));
  metavariables_numbered = numbered_last is_metavariable 0 0 ls l k.metavariables_numbered (λ t. nm t ∙ ap length k.metavariables_are ∙ plus_none (length (places is_metavariable 0 ls)));
  rules_numbered = numbered_last is_rule 0 0 ls l k.rules_numbered (λ t. nr t ∙ ap length k.rules_are ∙ plus_none (length (places is_rule 0 ls)));
}
  where
    plus_none : (n : ℕ) → n ≡ 0 + n
    plus_none n = omega arith

kept : (p : Content → Bool) (ls : List Line) (l : Line) (xs : List ℕ) → xs ≡ places p 0 ls → p l.content ≡ false → xs ≡ places p 0 (ls ++ l ∷ [])
kept p ls l xs e f = e ∙ sym (places_same p 0 ls l f)

grown : (p : Content → Bool) (ls : List Line) (l : Line) (xs : List ℕ) → xs ≡ places p 0 ls → p l.content ≡ true → xs ++ length ls ∷ [] ≡ places p 0 (ls ++ l ∷ [])
grown p ls l xs e t = ap (λ X. X ++ length ls ∷ []) e ∙ sym (places_more p 0 ls l t ∙ ap (λ n. places p 0 ls ++ n ∷ []) (plus_none (length ls)))
  where
    plus_none : (n : ℕ) → 0 + n ≡ n
    plus_none n = omega arith

pub push_entry : (ts : List Expression) (ls ls' : List Line) (es es' ms rs : List ℕ) (vs : List (ℕ × ℕ)) (ns : List (Name × ℕ)) (next : ℕ) (n k : ℕ) (c : Content) → IsKernel ts ls es ms rs vs ns next
    → ls' ≡ ls ++ record { number = n; content = c } ∷ [] → es' ≡ es ++ k ∷ [] → k ≡ length ls → n ≡ length es
    → is_entry c ≡ true → ContentBelow (length ts) c → Allowed (items_in ts ls) (item_in ts c) → IsKernel ts ls' es' ms rs vs ns next
push_entry ts ls ls' es es' ms rs vs ns next n k c h is_ls is_es at number e below allowed =
    subst (λ X. IsKernel ts X es' ms rs vs ns next) (sym is_ls)
    (more ts ls es ms rs es' ms rs vs ns ns next h (record { number = n; content = c }) below allowed
    (is_es ∙ ap (λ i. es ++ i ∷ []) at ∙ grown is_entry ls (record { number = n; content = c }) es h.entries_are e)
    (kept is_metavariable ls (record { number = n; content = c }) ms h.metavariables_are (entry_no_metavariable c e))
    (kept is_rule ls (record { number = n; content = c }) rs h.rules_are (entry_no_rule c e))
    (entry_no_place c e) (entry_no_variable ts c e) (names_kept ts ls (record { number = n; content = c }) ns h.names_are (entry_no_rule c e))
    (λ t. number) (λ t. not_counted (is_metavariable c) (entry_no_metavariable c e) t) (λ t. not_counted (is_rule c) (entry_no_rule c e) t))

pub push_met : (ts : List Expression) (ls ls' : List Line) (es ms ms' rs : List ℕ) (vs : List (ℕ × ℕ)) (ns : List (Name × ℕ)) (next : ℕ) (n k : ℕ) (x : MetItem) → IsKernel ts ls es ms rs vs ns next
    → ls' ≡ ls ++ record { number = n; content = Metavariable x } ∷ [] → ms' ≡ ms ++ k ∷ [] → k ≡ length ls → n ≡ length ms
    → Allowed (items_in ts ls) (metavariable x.name x.boundary) → IsKernel ts ls' es ms' rs vs ns next
push_met ts ls ls' es ms ms' rs vs ns next n k x h is_ls is_ms at number allowed =
    subst (λ X. IsKernel ts X es ms' rs vs ns next) (sym is_ls)
    (more ts ls es ms rs es ms' rs vs ns ns next h (record { number = n; content = Metavariable x }) tt allowed
    (kept is_entry ls (record { number = n; content = Metavariable x }) es h.entries_are refl)
    (is_ms ∙ ap (λ i. ms ++ i ∷ []) at ∙ grown is_metavariable ls (record { number = n; content = Metavariable x }) ms h.metavariables_are refl)
    (kept is_rule ls (record { number = n; content = Metavariable x }) rs h.rules_are refl)
    (λ v k later. refl) refl (names_kept ts ls (record { number = n; content = Metavariable x }) ns h.names_are refl) (λ t. wrong t) (λ t. number) (λ t. wrong t))

pub push_rule : (ts : List Expression) (ls ls' : List Line) (es ms rs rs' : List ℕ) (vs : List (ℕ × ℕ)) (ns ns' : List (Name × ℕ)) (next : ℕ) (n k : ℕ) (m : Name) (x : RuleItem) → IsKernel ts ls es ms rs vs ns next
    → ls' ≡ ls ++ record { number = n; content = Rule x } ∷ [] → rs' ≡ rs ++ k ∷ [] → k ≡ length ls → n ≡ length rs → m ≡ x.name
    → ((o : Name) → lookup (bytes_eq o) ns' ≡ cond (bytes_eq m o) (Some n) (lookup (bytes_eq o) ns))
    → Allowed (items_in ts ls) (rule x.name x.premises x.conclusion) → IsKernel ts ls' es ms rs' vs ns' next
push_rule ts ls ls' es ms rs rs' vs ns ns' next n k m x h is_ls is_rs at number copied is_ns allowed =
    subst (λ X. IsKernel ts X es ms rs' vs ns' next) (sym is_ls)
    (more ts ls es ms rs es ms rs' vs ns ns' next h (record { number = n; content = Rule x }) tt allowed
    (kept is_entry ls (record { number = n; content = Rule x }) es h.entries_are refl)
    (kept is_metavariable ls (record { number = n; content = Rule x }) ms h.metavariables_are refl)
    (is_rs ∙ ap (λ i. rs ++ i ∷ []) at ∙ grown is_rule ls (record { number = n; content = Rule x }) rs h.rules_are refl)
    (λ v k later. refl) refl
    (names_grown ts ls n n x ns ns' h.names_are (subst (λ X. is_new X x.name ≡ true) (store_is (items_in ts ls) h.good).names allowed.0) many (λ o. is_ns o ∙ ap (λ m. cond (bytes_eq m o) (Some n) (lookup (bytes_eq o) ns)) copied))
    (λ t. wrong t) (λ t. wrong t) (λ t. number))
  where
    many : n ≡ length (rule_names (items_in ts ls))
    many = number ∙ many_places rules ts ls rs h.rules_are ∙ sym (length-map (rules_in (items_in ts ls)) (λ (x : Name × List ℕ × ℕ). x.0))

-- a kernel whose pushes were undone
pub undone : (ts : List Expression) (ls ls' : List Line) (es ms rs rs' : List ℕ) (vs : List (ℕ × ℕ)) (ns ns' : List (Name × ℕ)) (next : ℕ) → IsKernel ts ls es ms rs vs ns next → ls' ≡ ls → rs' ≡ rs → ns' ≡ ns
    → IsKernel ts ls' es ms rs' vs ns' next
undone ts ls ls' es ms rs rs' vs ns ns' next h l r n =
    subst (λ ls. IsKernel ts ls es ms rs' vs ns' next) (sym l) (subst (λ rs. IsKernel ts ls es ms rs vs ns' next) (sym r) (subst (λ ns. IsKernel ts ls es ms rs vs ns next) (sym n) h))

pub push_shown : (ts : List Expression) (ls ls' : List Line) (es ms rs : List ℕ) (vs : List (ℕ × ℕ)) (ns : List (Name × ℕ)) (next : ℕ) (n j : ℕ) → IsKernel ts ls es ms rs vs ns next
    → ls' ≡ ls ++ record { number = n; content = Shown j } ∷ [] → Allowed (items_in ts ls) (shown j) → IsKernel ts ls' es ms rs vs ns next
push_shown ts ls ls' es ms rs vs ns next n j h is_ls allowed =
    subst (λ X. IsKernel ts X es ms rs vs ns next) (sym is_ls)
    (more ts ls es ms rs es ms rs vs ns ns next h (record { number = n; content = Shown j }) tt allowed
    (kept is_entry ls (record { number = n; content = Shown j }) es h.entries_are refl)
    (kept is_metavariable ls (record { number = n; content = Shown j }) ms h.metavariables_are refl)
    (kept is_rule ls (record { number = n; content = Shown j }) rs h.rules_are refl)
    (λ v k later. refl) refl (names_kept ts ls (record { number = n; content = Shown j }) ns h.names_are refl) (λ t. wrong t) (λ t. wrong t) (λ t. wrong t))

pub push_var : (ts : List Expression) (ls ls' : List Line) (es ms rs : List ℕ) (vs vs' : List (ℕ × ℕ)) (ns : List (Name × ℕ)) (next next' : ℕ) (n k : ℕ) (x : VarItem) → IsKernel ts ls es ms rs vs ns next
    → ls' ≡ ls ++ record { number = n; content = Variable x } ∷ [] → k ≡ length ls
    → ((v : ℕ) → lookup (nat_eq v) vs' ≡ cond (nat_eq x.number v) (Some k) (lookup (nat_eq v) vs)) → next' ≡ max next (x.number + 1)
    → Allowed (items_in ts ls) (variable x.number x.name x.ty) → IsKernel ts ls' es ms rs vs' ns next'
push_var ts ls ls' es ms rs vs vs' ns next next' n k x h is_ls at is_vs is_next' allowed = subst (λ X. IsKernel ts X es ms rs vs' ns next') (sym is_ls) (record {
  good = good_more ts ls l h.good allowed;
  below = below_last (length ts) ls l h.below tt;
  entries_are = kept is_entry ls l es h.entries_are refl;
  metavariables_are = kept is_metavariable ls l ms h.metavariables_are refl;
  rules_are = kept is_rule ls l rs h.rules_are refl;
  variables_are = λ v. is_vs v ∙ ap (λ o. cond (nat_eq x.number v) (Some k) o) (h.variables_are v) ∙ ap (λ i. cond (nat_eq x.number v) (Some i) (place_numbered 0 ls v)) (at ∙ plus_none (length ls))
      ∙ sym (place_more 0 ls n x v absent);
  names_are = names_kept ts ls l ns h.names_are refl;
  next_is = is_next' ∙ ap (λ n. max n (x.number + 1)) h.next_is ∙ sym (next_more (variables_in (items_in ts ls)) x.number x.name x.ty)
      ∙ sym (ap (λ X. next_number (variables_in X)) (items_last ts ls l) ∙ ap next_number (variables_last (items_in ts ls) (variable x.number x.name x.ty)));
  entries_numbered = numbered_last is_entry 0 0 ls l h.entries_numbered (λ t. wrong t);
  metavariables_numbered = numbered_last is_metavariable 0 0 ls l h.metavariables_numbered (λ t. wrong t);
  rules_numbered = numbered_last is_rule 0 0 ls l h.rules_numbered (λ t. wrong t);
})
  where
    l : Line
    l = record { number = n; content = Variable x }

    plus_none : (n : ℕ) → n ≡ 0 + n
    plus_none n = omega arith

    absent : place_numbered 0 ls x.number ≡ None
    absent = none_numbered ts 0 ls x.number (λ (y : ℕ × Name × ℕ). annotated y (nth (entries_in (items_in ts ls)) y.2)) (λ y. annotated_number y (nth (entries_in (items_in ts ls)) y.2))
        (subst (λ G. is_next G x.number ≡ true) (store_is (items_in ts ls) h.good).variables allowed.0)
