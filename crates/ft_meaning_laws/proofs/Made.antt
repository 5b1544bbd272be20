-- Values whose judgements and boundaries are entries of a list, and evaluations that keep to such values.
use Rattle.std.proofs.Common.{◌≡◌, ℕ, zero, suc, Bool, true, false, cond, Option, Some, None, Result, Ok, Err, List, [], ◌∷◌, ◌++◌, sym, ◌∙◌, subst}
use Rattle.ft_items.specs.Equal.{is_thesis}
use Rattle.ft_items.specs.Item.{Name, Item}
use Rattle.ft_items.specs.Store.{Assertion, nth, add, empty_store, store_of, declared_by, Store}
use Rattle.ft_items.specs.Good.{is_next}
use Rattle.ft_items.proofs.Lists.{store_last, declared_last}
use Rattle.ft_equality.specs.Programs.{spend_from}
use Rattle.ft_meaning.specs.Values.{Value, judgement, boundary, unit, truth, pair, nil, cons, none, some, Environment, State, End, performs, halts, Halt, stuck, Outcome, Run, ◌>>=◌, ◌>>◌, pure, end, halt, the, settled, spend, as_judgement, as_judgements}
use Rattle.ft_meaning.specs.Stages.{Stage}
use Rattle.ft_meaning.specs.Values as values
use Rattle.ft_meaning.specs.Names.{named}
use Rattle.ft_items.specs.Good.{equal_names}
use Rattle.ft_meaning_laws.proofs.Grows.{GrowsStore, grows_last, Quiet, quiet_self, quiet_then, next_later}
use Rattle.ft_meaning_laws.proofs.Lists.{IsSound, AreAccepted, accepted_later}

-- the assertion is an entry of the list, and a thesis or a boundary
abbrev pub IsEntry : List Item → Assertion → Type 0
IsEntry items a = (n : ℕ) × (nth (store_of items).entries n ≡ Some a)

abbrev pub IsThesis : List Item → Assertion → Type 0
IsThesis items a = IsEntry items a × (is_thesis a.statement ≡ true)

abbrev pub IsBoundary : List Item → Assertion → Type 0
IsBoundary items a = IsEntry items a × (is_thesis a.statement ≡ false)

abbrev pub AllTheses : List Item → List Assertion → Type 0
AllTheses items [] = Unit {0}
AllTheses items (j ∷ js) = IsThesis items j × AllTheses items js

-- each judgement and boundary of the value is
abbrev pub IsMade : List Item → Value → Type 0
IsMade items (judgement a) = IsThesis items a
IsMade items (boundary a) = IsBoundary items a
IsMade items unit = Unit {0}
IsMade items (truth b) = Unit {0}
IsMade items (pair v w) = IsMade items v × IsMade items w
IsMade items nil = Unit {0}
IsMade items (cons v w) = IsMade items v × IsMade items w
IsMade items none = Unit {0}
IsMade items (some v) = IsMade items v

abbrev pub AreMade : List Item → Environment → Type 0
AreMade items [] = Unit {0}
AreMade items (p ∷ G) = IsMade items p.1 × AreMade items G

abbrev pub IfMade : List Item → Option Environment → Type 0
IfMade items None = Unit {0}
IfMade items (Some G) = AreMade items G

-- what an end has in it
abbrev pub EndIsMade : List Item → End → Type 0
EndIsMade items (performs op v at) = IsMade items v
EndIsMade items (halts h) = Unit {0}

-- they stay as the list grows
entry_grown : (xs ys : List Item) → GrowsStore (store_of xs) (store_of ys) → (a : Assertion) → IsEntry xs a → IsEntry ys a
entry_grown xs ys q a h = (h.0, q.entries h.0 a h.1)

pub theses_grown : (xs ys : List Item) → GrowsStore (store_of xs) (store_of ys) → (js : List Assertion) → AllTheses xs js → AllTheses ys js
theses_grown xs ys q [] h = tt
theses_grown xs ys q (j ∷ js) h = ((entry_grown xs ys q j h.0.0, h.0.1), theses_grown xs ys q js h.1)

made_grown : (xs ys : List Item) → GrowsStore (store_of xs) (store_of ys) → (v : Value) → IsMade xs v → IsMade ys v
made_grown xs ys q (judgement a) h = (entry_grown xs ys q a h.0, h.1)
made_grown xs ys q (boundary a) h = (entry_grown xs ys q a h.0, h.1)
made_grown xs ys q unit h = tt
made_grown xs ys q (truth b) h = tt
made_grown xs ys q (pair v w) h = (made_grown xs ys q v h.0, made_grown xs ys q w h.1)
made_grown xs ys q nil h = tt
made_grown xs ys q (cons v w) h = (made_grown xs ys q v h.0, made_grown xs ys q w h.1)
made_grown xs ys q none h = tt
made_grown xs ys q (some v) h = made_grown xs ys q v h

pub are_made_grown : (xs ys : List Item) → GrowsStore (store_of xs) (store_of ys) → (G : Environment) → AreMade xs G → AreMade ys G
are_made_grown xs ys q [] h = tt
are_made_grown xs ys q (p ∷ G) h = (made_grown xs ys q p.1 h.0, are_made_grown xs ys q G h.1)

-- the same where it tells nothing more
pub thesis_later : (xs ys : List Item) → Quiet xs ys → (a : Assertion) → IsThesis xs a → IsThesis ys a
thesis_later xs ys q a h = (entry_grown xs ys q.grows a h.0, h.1)

pub theses_later : (xs ys : List Item) → Quiet xs ys → (js : List Assertion) → AllTheses xs js → AllTheses ys js
theses_later xs ys q js h = theses_grown xs ys q.grows js h

pub made_later : (xs ys : List Item) → Quiet xs ys → (v : Value) → IsMade xs v → IsMade ys v
made_later xs ys q v h = made_grown xs ys q.grows v h

pub are_made_later : (xs ys : List Item) → Quiet xs ys → (G : Environment) → AreMade xs G → AreMade ys G
are_made_later xs ys q G h = are_made_grown xs ys q.grows G h

-- the value of a name
abbrev pub ValueIsMade : List Item → Option Value → Type 0
ValueIsMade items None = Unit {0}
ValueIsMade items (Some v) = IsMade items v

pub named_is_made : (items : List Item) (G : Environment) (n : Name) → AreMade items G → ValueIsMade items (named G n)
named_is_made items [] n h = tt
named_is_made items (p ∷ G) n h = go (equal_names p.0 n) (named_is_made items G n h.1)
  where
    go : (b : Bool) → ValueIsMade items (named G n) → ValueIsMade items (cond b (Some p.1) (named G n))
    go true k = h.0
    go false k = k

-- an outcome over a longer list that tells no more; its value is as P says
abbrev pub Gives : {A : Type 0} → (List Item → A → Type 0) → List Item → Result A End → Type 0
Gives P items (Ok a) = P items a
Gives P items (Err e) = EndIsMade items e

-- units
abbrev pub Any : List Item → Unit {0} → Type 0
Any items u = Unit {0}

module _ (B : Stage) where
  -- The list goes along with the state: the declarations are the list's, the equality rules were accepted, and units count past the
  -- numbers of its variables.
  pub record Holds (items : List Item) (s : State) : Type 0 where
    pub list : IsSound B items
    pub equality : AreAccepted (declared_by items).rules s.equality_rules
    pub declarations : s.declarations ≡ declared_by items
    pub next : is_next (declared_by items).variables s.units.used ≡ true

  -- one more item, and the state with it
  pub holds_last : (items : List Item) (i : Item) (s t : State) → Holds items s → IsSound B (items ++ (i ∷ [])) → t.equality_rules ≡ s.equality_rules → t.declarations ≡ (add (store_of items) i).declarations
      → is_next (add (store_of items) i).declarations.variables t.units.used ≡ true → Holds (items ++ (i ∷ [])) t
  holds_last items i s t h l r e n = record {
    list = l;
    equality = subst (AreAccepted (declared_by (items ++ (i ∷ []))).rules) (sym r) (accepted_later (declared_by items).rules (declared_by (items ++ (i ∷ []))).rules s.equality_rules (grows_last items i).declarations.rules h.equality);
    declarations = e ∙ sym (declared_last items i);
    next = subst (λ (z : Store). is_next z.declarations.variables t.units.used ≡ true) (sym (store_last empty_store items i)) n;
  }

  pub record Kept (A : Type 0) (P : List Item → A → Type 0) (items : List Item) (o : Outcome A) : Type 0 where
    pub later : List Item
    pub quiet : Quiet items later
    pub holds : Holds later o.1
    pub gives : Gives P later o.0

  abbrev pub Keeps : (A : Type 0) → (List Item → A → Type 0) → List Item → Run A → Type 0
  Keeps A P items m = (s : State) → Holds items s → Kept A P items (m s)

  -- the parts of evaluations in a row
  pub kept_after : (A C : Type 0) (P : List Item → A → Type 0) (Q : List Item → C → Type 0) (items : List Item) (o : Outcome A) (next : A → Run C) → Kept A P items o
      → ((later : List Item) → Quiet items later → (a : A) → P later a → Keeps C Q later (next a)) → Kept C Q items (values.after o next)
  kept_after A C P Q items (Ok a, s) next k f =
      let r : Kept C Q k.later (next a s) = f k.later k.quiet a k.gives s k.holds in
      record { later = r.later; quiet = quiet_then items k.later r.later k.quiet r.quiet; holds = r.holds; gives = r.gives }
  kept_after A C P Q items (Err e, s) next k f = record { later = k.later; quiet = k.quiet; holds = k.holds; gives = k.gives }

  pub keeps_bind : (A C : Type 0) (P : List Item → A → Type 0) (Q : List Item → C → Type 0) (items : List Item) (m : Run A) (next : A → Run C) → Keeps A P items m
      → ((later : List Item) → Quiet items later → (a : A) → P later a → Keeps C Q later (next a)) → Keeps C Q items (m >>= next)
  keeps_bind A C P Q items m next k f s h = kept_after A C P Q items (m s) next (k s h) f

  pub keeps_then : (A C : Type 0) (P : List Item → A → Type 0) (Q : List Item → C → Type 0) (items : List Item) (m : Run A) (n : Run C) → Keeps A P items m
      → ((later : List Item) → Quiet items later → Keeps C Q later n) → Keeps C Q items (m >> n)
  keeps_then A C P Q items m n k f s h = kept_after A C P Q items (m s) (λ a. n) (k s h) (λ later q a p. f later q)

  pub keeps_pure : (A : Type 0) (P : List Item → A → Type 0) (items : List Item) (a : A) → P items a → Keeps A P items (pure a)
  keeps_pure A P items a p s h = record { later = items; quiet = quiet_self items; holds = h; gives = p }

  pub keeps_end : (A : Type 0) (P : List Item → A → Type 0) (items : List Item) (e : End) → EndIsMade items e → Keeps A P items (end e)
  keeps_end A P items e p s h = record { later = items; quiet = quiet_self items; holds = h; gives = p }

  pub keeps_halt : (A : Type 0) (P : List Item → A → Type 0) (items : List Item) (e : Halt) → Keeps A P items (halt e)
  keeps_halt A P items e = keeps_end A P items (halts e) tt

  pub keeps_cond : (A : Type 0) (P : List Item → A → Type 0) (items : List Item) (b : Bool) (m n : Run A) → Keeps A P items m → Keeps A P items n → Keeps A P items (cond b m n)
  keeps_cond A P items true m n k l = k
  keeps_cond A P items false m n k l = l

  kept_weaken : (A : Type 0) (P Q : List Item → A → Type 0) (items : List Item) (o : Outcome A) → ((later : List Item) (a : A) → P later a → Q later a) → Kept A P items o → Kept A Q items o
  kept_weaken A P Q items (Ok a, s) f k = record { later = k.later; quiet = k.quiet; holds = k.holds; gives = f k.later a k.gives }
  kept_weaken A P Q items (Err e, s) f k = record { later = k.later; quiet = k.quiet; holds = k.holds; gives = k.gives }

  pub keeps_weaken : (A : Type 0) (P Q : List Item → A → Type 0) (items : List Item) (m : Run A) → ((later : List Item) (a : A) → P later a → Q later a) → Keeps A P items m → Keeps A Q items m
  keeps_weaken A P Q items m f k s h = kept_weaken A P Q items (m s) f (k s h)

  pub keeps_spend : (items : List Item) (at : ℕ) → Keeps (Unit {0}) Any items (spend at)
  keeps_spend items at s h = go s.units.left
    where
      go : (left : ℕ) → Kept (Unit {0}) Any items (settled at s (spend_from s.units.used left (λ u. (Ok tt, u))))
      go zero = record { later = items; quiet = quiet_self items; holds = record { list = h.list; equality = h.equality; declarations = h.declarations; next = h.next }; gives = tt }
      go (suc left) = record {
        later = items;
        quiet = quiet_self items;
        holds = record { list = h.list; equality = h.equality; declarations = h.declarations; next = next_later (declared_by items).variables s.units.used h.next };
        gives = tt;
      }

  -- a unit first
  pub keeps_spending : (C : Type 0) (Q : List Item → C → Type 0) (items : List Item) (at : ℕ) (n : Run C) → ((later : List Item) → Quiet items later → Keeps C Q later n) → Keeps C Q items (spend at >> n)
  keeps_spending C Q items at n f = keeps_then (Unit {0}) C Any Q items (spend at) n (keeps_spend items at) f

  -- values of one kind
  pub keeps_judgement : (items : List Item) (v : Value) → IsMade items v → Keeps Assertion IsThesis items (as_judgement v)
  keeps_judgement items (judgement j) h = keeps_pure Assertion IsThesis items j h
  keeps_judgement items v h = keeps_halt Assertion IsThesis items stuck

  pub keeps_judgements : (items : List Item) (v : Value) → IsMade items v → Keeps (List Assertion) AllTheses items (as_judgements v)
  keeps_judgements items nil h = keeps_pure (List Assertion) AllTheses items [] tt
  keeps_judgements items (cons v w) h =
      keeps_bind Assertion (List Assertion) IsThesis AllTheses items (as_judgement v) (λ j. as_judgements w >>= λ js. pure (j ∷ js)) (keeps_judgement items v h.0)
      (λ xs q j p. keeps_bind (List Assertion) (List Assertion) AllTheses AllTheses xs (as_judgements w) (λ js. pure (j ∷ js)) (keeps_judgements xs w (made_later items xs q w h.1))
      (λ ys r js p'. keeps_pure (List Assertion) AllTheses ys (j ∷ js) (thesis_later xs ys r j p, p')))
  keeps_judgements items v h = keeps_halt (List Assertion) AllTheses items stuck
