-- What is read of values over a list.
use Rattle.std.proofs.Common.{◌≡◌, ◌∙◌, ◌++◌, sym, ap, refl, subst, ℕ, List, [], ◌∷◌, Some, None, Bool, true, false, cond, Option}
use Rattle.std.specs.Prelude.{option_map, map, IfSome}
use Rattle.std.proofs.lemmas.Option.{none-some, same_Some}
use Rattle.ft_items.specs.Item.{Name}
use Rattle.ft_items.specs.Good.{equal_names}
use Rattle.ft_apply.specs.Named.{AreThesesOf}
use Rattle.ft_kernel.specs.State.{State, IsThesisOf, IsBoundaryOf}
use Rattle.ft_meaning.specs.Names.{named}
use Rattle.ft_meaning.specs.Values as meaning
use Rattle.ft_meaning.specs.Values.{State as Running, as_judgement, as_judgements, the}
use Rattle.ft_values.specs.declared.values.Value.{Value}
use Rattle.ft_values.specs.Kept as kept
use Rattle.ft_values.specs.Kept.{Kept, judgement, boundary, unit, truth, pair, nil, cons, none, some, stated_at, value_of, IsOver, judgements_in, before_members, found_before, if_list}
use Rattle.ft_values.proofs.Meant.{members_are}
use Rattle.ft_values.specs.Named.{value_in, environment_in, NamesBelow}
use Rattle.ft_values.specs.Rows.{kept_in, Below}
use Rattle.ft_running.specs.Readers.{judgement_in, boundary_in, truth_in, is_unit, is_nil, is_none, pair_in, list_in, option_in}

pub judgement_read : (v : meaning.Value) (s : Running) → as_judgement v s ≡ the (judgement_in v) s
judgement_read (meaning.judgement j) s = refl
judgement_read (meaning.boundary b) s = refl
judgement_read meaning.unit s = refl
judgement_read (meaning.truth b) s = refl
judgement_read (meaning.pair v w) s = refl
judgement_read meaning.nil s = refl
judgement_read (meaning.cons v w) s = refl
judgement_read meaning.none s = refl
judgement_read (meaning.some v) s = refl

-- ---- values of a kind

pub reads_judgement : (s : State) (k : Kept) → option_map (stated_at s) (kept.judgement_of k) ≡ judgement_in (value_of s k)
reads_judgement s (judgement j) = refl
reads_judgement s (boundary b) = refl
reads_judgement s unit = refl
reads_judgement s (truth b) = refl
reads_judgement s (pair v w) = refl
reads_judgement s nil = refl
reads_judgement s (cons v w) = refl
reads_judgement s none = refl
reads_judgement s (some v) = refl

pub reads_thesis : (s : State) (k : Kept) → IsOver s k → IfSome (kept.judgement_of k) (IsThesisOf s)
reads_thesis s (judgement j) h = h
reads_thesis s (boundary b) h = tt
reads_thesis s unit h = tt
reads_thesis s (truth b) h = tt
reads_thesis s (pair v w) h = tt
reads_thesis s nil h = tt
reads_thesis s (cons v w) h = tt
reads_thesis s none h = tt
reads_thesis s (some v) h = tt

pub reads_boundary : (s : State) (k : Kept) → option_map (stated_at s) (kept.boundary_of k) ≡ boundary_in (value_of s k)
reads_boundary s (judgement j) = refl
reads_boundary s (boundary b) = refl
reads_boundary s unit = refl
reads_boundary s (truth b) = refl
reads_boundary s (pair v w) = refl
reads_boundary s nil = refl
reads_boundary s (cons v w) = refl
reads_boundary s none = refl
reads_boundary s (some v) = refl

pub reads_goal : (s : State) (k : Kept) → IsOver s k → IfSome (kept.boundary_of k) (IsBoundaryOf s)
reads_goal s (judgement j) h = tt
reads_goal s (boundary b) h = h
reads_goal s unit h = tt
reads_goal s (truth b) h = tt
reads_goal s (pair v w) h = tt
reads_goal s nil h = tt
reads_goal s (cons v w) h = tt
reads_goal s none h = tt
reads_goal s (some v) h = tt

pub reads_truth : (s : State) (k : Kept) → kept.truth_of k ≡ truth_in (value_of s k)
reads_truth s (judgement j) = refl
reads_truth s (boundary b) = refl
reads_truth s unit = refl
reads_truth s (truth b) = refl
reads_truth s (pair v w) = refl
reads_truth s nil = refl
reads_truth s (cons v w) = refl
reads_truth s none = refl
reads_truth s (some v) = refl

pub reads_unit : (s : State) (k : Kept) → kept.is_unit k ≡ is_unit (value_of s k)
reads_unit s (judgement j) = refl
reads_unit s (boundary b) = refl
reads_unit s unit = refl
reads_unit s (truth b) = refl
reads_unit s (pair v w) = refl
reads_unit s nil = refl
reads_unit s (cons v w) = refl
reads_unit s none = refl
reads_unit s (some v) = refl

pub reads_nil : (s : State) (k : Kept) → kept.is_nil k ≡ is_nil (value_of s k)
reads_nil s (judgement j) = refl
reads_nil s (boundary b) = refl
reads_nil s unit = refl
reads_nil s (truth b) = refl
reads_nil s (pair v w) = refl
reads_nil s nil = refl
reads_nil s (cons v w) = refl
reads_nil s none = refl
reads_nil s (some v) = refl

pub reads_none : (s : State) (k : Kept) → kept.is_none_value k ≡ is_none (value_of s k)
reads_none s (judgement j) = refl
reads_none s (boundary b) = refl
reads_none s unit = refl
reads_none s (truth b) = refl
reads_none s (pair v w) = refl
reads_none s nil = refl
reads_none s (cons v w) = refl
reads_none s none = refl
reads_none s (some v) = refl

-- ---- parts

-- parts over a list
both_of : State → Option (Kept × Kept) → Option (meaning.Value × meaning.Value)
both_of s o = option_map (λ p. (value_of s p.0, value_of s p.1)) o

pair_read : (s : State) (k : Kept) → both_of s (kept.pair_parts k) ≡ pair_in (value_of s k)
unfolding both_of
pair_read s (judgement j) = refl
pair_read s (boundary b) = refl
pair_read s unit = refl
pair_read s (truth b) = refl
pair_read s (pair v w) = refl
pair_read s nil = refl
pair_read s (cons v w) = refl
pair_read s none = refl
pair_read s (some v) = refl

list_read : (s : State) (k : Kept) → both_of s (kept.list_parts k) ≡ list_in (value_of s k)
unfolding both_of
list_read s (judgement j) = refl
list_read s (boundary b) = refl
list_read s unit = refl
list_read s (truth b) = refl
list_read s (pair v w) = refl
list_read s nil = refl
list_read s (cons v w) = refl
list_read s none = refl
list_read s (some v) = refl

option_read : (s : State) (k : Kept) → option_map (value_of s) (kept.option_part k) ≡ option_in (value_of s k)
option_read s (judgement j) = refl
option_read s (boundary b) = refl
option_read s unit = refl
option_read s (truth b) = refl
option_read s (pair v w) = refl
option_read s nil = refl
option_read s (cons v w) = refl
option_read s none = refl
option_read s (some v) = refl

both_read : (s : State) (ks : List Kept) (o : Option (Value × Value))
    → option_map (λ p. (value_in s ks p.0, value_in s ks p.1)) o ≡ both_of s (option_map (λ p. (kept_in ks p.0, kept_in ks p.1)) o)
unfolding both_of
both_read s ks None = refl
both_read s ks (Some p) = refl

pub reads_pair : (s : State) (ks : List Kept) (o : Option (Value × Value)) (k : Kept) → option_map (λ p. (kept_in ks p.0, kept_in ks p.1)) o ≡ kept.pair_parts k
    → option_map (λ p. (value_in s ks p.0, value_in s ks p.1)) o ≡ pair_in (value_of s k)
reads_pair s ks o k h = both_read s ks o ∙ ap (both_of s) h ∙ pair_read s k

pub reads_list : (s : State) (ks : List Kept) (o : Option (Value × Value)) (k : Kept) → option_map (λ p. (kept_in ks p.0, kept_in ks p.1)) o ≡ kept.list_parts k
    → option_map (λ p. (value_in s ks p.0, value_in s ks p.1)) o ≡ list_in (value_of s k)
reads_list s ks o k h = both_read s ks o ∙ ap (both_of s) h ∙ list_read s k

one_read : (s : State) (ks : List Kept) (o : Option Value) → option_map (value_in s ks) o ≡ option_map (value_of s) (option_map (kept_in ks) o)
one_read s ks None = refl
one_read s ks (Some v) = refl

pub reads_option : (s : State) (ks : List Kept) (o : Option Value) (k : Kept) → option_map (kept_in ks) o ≡ kept.option_part k
    → option_map (value_in s ks) o ≡ option_in (value_of s k)
reads_option s ks o k h = one_read s ks o ∙ ap (option_map (value_of s)) h ∙ option_read s k

-- ---- lists of judgements

-- the members of a list over a list of items are theses
first_thesis : (s : State) (o : Option (List ℕ)) (js : List ℕ) (k : Kept) → IsOver s k → ((is : List ℕ) → o ≡ Some is → AreThesesOf s is)
    → before_members (kept.judgement_of k) o ≡ Some js → AreThesesOf s js
first_thesis s None js (judgement j) h ih e = absurd (none-some js e)
first_thesis s (Some is) js (judgement j) h ih e = subst (AreThesesOf s) (same_Some (j ∷ is) js e) (h, ih is refl)
first_thesis s o js (boundary b) h ih e = absurd (none-some js e)
first_thesis s o js unit h ih e = absurd (none-some js e)
first_thesis s o js (truth b) h ih e = absurd (none-some js e)
first_thesis s o js (pair v w) h ih e = absurd (none-some js e)
first_thesis s o js nil h ih e = absurd (none-some js e)
first_thesis s o js (cons v w) h ih e = absurd (none-some js e)
first_thesis s o js none h ih e = absurd (none-some js e)
first_thesis s o js (some v) h ih e = absurd (none-some js e)

pub reads_theses : (s : State) (k : Kept) (js : List ℕ) → IsOver s k → judgements_in k ≡ Some js → AreThesesOf s js
reads_theses s (judgement j) js h e = absurd (none-some js e)
reads_theses s (boundary b) js h e = absurd (none-some js e)
reads_theses s unit js h e = absurd (none-some js e)
reads_theses s (truth b) js h e = absurd (none-some js e)
reads_theses s (pair v w) js h e = absurd (none-some js e)
reads_theses s nil js h e = subst (AreThesesOf s) (same_Some [] js e) tt
reads_theses s (cons v w) js h e = first_thesis s (judgements_in w) js v h.0 (λ is f. reads_theses s w is h.1 f) e
reads_theses s none js h e = absurd (none-some js e)
reads_theses s (some v) js h e = absurd (none-some js e)

-- ---- what names stand for

in_one : (s : State) (ks : List Kept) (b : Bool) (v : Value) (o : Option Value) (p : Option meaning.Value) → option_map (value_in s ks) o ≡ p
    → option_map (value_in s ks) (cond b (Some v) o) ≡ cond b (Some (value_in s ks v)) p
in_one s ks true v o p h = refl
in_one s ks false v o p h = h

pub reads_name : (s : State) (ks : List Kept) (ns : List (Name × Value)) (n : Name) → option_map (value_in s ks) (named ns n) ≡ named (environment_in s ks ns) n
reads_name s ks [] n = refl
reads_name s ks (p ∷ ps) n = in_one s ks (equal_names p.0 n) p.1 (named ps n) (named (environment_in s ks ps) n) (reads_name s ks ps n)

-- what the first list has counts, and else what the second has
abbrev pub either_named : {A : Type 0} → Option A → Option A → Option A
either_named (Some a) o = Some a
either_named None o = o

named_later : {A : Type 0} (b : Bool) (a : A) (o p q : Option A) → o ≡ either_named p q → cond b (Some a) o ≡ either_named (cond b (Some a) p) q
named_later true a o p q h = refl
named_later false a o p q h = h

named_both : {A : Type 0} (ms ns : List (Name × A)) (n : Name) → named (ms ++ ns) n ≡ either_named (named ms n) (named ns n)
named_both [] ns n = refl
named_both (p ∷ ps) ns n = named_later (equal_names p.0 n) p.1 (named (ps ++ ns) n) (named ps n) (named ns n) (named_both ps ns n)

pub named_first : {A : Type 0} (ms ns : List (Name × A)) (n : Name) (a : A) → named ms n ≡ Some a → named (ms ++ ns) n ≡ Some a
named_first ms ns n a h = named_both ms ns n ∙ ap (λ o. either_named o (named ns n)) h

pub named_second : {A : Type 0} (ms ns : List (Name × A)) (n : Name) → named ms n ≡ None → named (ms ++ ns) n ≡ named ns n
named_second ms ns n h = named_both ms ns n ∙ ap (λ o. either_named o (named ns n)) h

-- the value under a name is one of those that the names have
below_one : (m : ℕ) (b : Bool) (v w : Value) (o : Option Value) → Below m v → (o ≡ Some w → Below m w) → cond b (Some v) o ≡ Some w → Below m w
below_one m true v w o h ih e = subst (Below m) (same_Some v w e) h
below_one m false v w o h ih e = ih e

pub named_below : (m : ℕ) (ns : List (Name × Value)) (n : Name) (v : Value) → NamesBelow m ns → named ns n ≡ Some v → Below m v
named_below m [] n v h e = absurd (none-some v e)
named_below m (p ∷ ps) n v h e = below_one m (equal_names p.0 n) p.1 v (named ps n) h.0 (λ f. named_below m ps n v h.1 f) e

pub found_below : (m : ℕ) (ns : List (Name × Value)) (n : Name) (o : Option Value) → NamesBelow m ns → o ≡ named ns n → IfSome o (λ v. Below m v)
found_below m ns n None h is = tt
found_below m ns n (Some v) h is = named_below m ns n v h (sym is)

pub found_means : (s : State) (ks : List Kept) (ns : List (Name × Value)) (n : Name) (o : Option Value) → o ≡ named ns n
    → option_map (value_in s ks) o ≡ named (environment_in s ks ns) n
found_means s ks ns n o is = ap (option_map (value_in s ks)) is ∙ reads_name s ks ns n

-- ---- the members that were found

nothing_before : (o : Option (List ℕ)) → found_before [] o ≡ o
nothing_before None = refl
nothing_before (Some js) = refl

pub list_found : (b : Bool) (js : List ℕ) (o : Option (List ℕ)) → if_list b js ≡ found_before [] o → o ≡ if_list b js
list_found b js o h = sym (h ∙ nothing_before o)

pub reads_list_of : (s : State) (k : Kept) (o : Option (List ℕ)) → judgements_in k ≡ o → (t : Running) → as_judgements (value_of s k) t ≡ the (option_map (map (stated_at s)) o) t
reads_list_of s k o h t = members_are s k t ∙ ap (λ o. the (option_map (map (stated_at s)) o) t) h
