-- Names in a scope.
use Rattle.std.proofs.Common.{◌≡◌, ◌≤◌, ◌<◌, ◌-◌, ◌+◌, ◌∙◌, ◌++◌, sym, ap, ap₂, subst, refl, ℕ, zero, suc, List, [], ◌∷◌, length, get_or, take, drop, take-append-drop, length-drop, append_assoc, arith}
use Rattle.std.specs.Prelude.{cond, Bool, true, false, Option, Some, None, option_map}
use Rattle.ft_items.specs.Item.{Name}
use Rattle.std.specs.Str.{bytes_eq}
use Rattle.std.proofs.Math.Seq.{take-suc}
use Rattle.ft_items.specs.Good.{equal_names}
use Rattle.ft_items.proofs.Names.{bytes_eq-names}
use Rattle.ft_meaning.specs.Trees.{ValueType}
use Rattle.ft_meaning.specs.Names.{named}
use Rattle.ft_types.specs.declared.types.KnownType.{KnownType}
use Rattle.ft_meaning.specs.Typing.{RuleType, Scope}
use Rattle.ft_types.specs.declared.checker.RuleShape.{RuleShape}
use Rattle.ft_types.specs.declared.checker.OperationShape.{OperationShape}
use Rattle.ft_types.specs.declared.names.Entry.{Entry}
use Rattle.ft_types.specs.Types.{type_in, Below, Extends}
use Rattle.ft_types.specs.Names.{listed_before, listed}
use Rattle.ft_types.specs.Checking.{renamed, operation_in, rule_in, ValuesBelow, OperationsBelow, IsChecker, Checking, Keeps}
use Rattle.ft_types.proofs.Listed.{listed_append}
use Rattle.ft_types.proofs.Tables.{below_extends, type_extends}

-- ---- names with what becomes of their meanings

named_step : {A B : Type 0} (f : A → B) (b : Bool) (a : A) (o : Option B) (q : Option A) → o ≡ option_map f q → cond b (Some (f a)) o ≡ option_map f (cond b (Some a) q)
named_step f true a o q h = refl
named_step f false a o q h = h

pub named_renamed : {A B : Type 0} (f : A → B) (ns : List (Name × A)) (n : Name) → named (renamed f ns) n ≡ option_map f (named ns n)
named_renamed f [] n = refl
named_renamed f (p ∷ ps) n = named_step f (equal_names p.0 n) p.1 (named (renamed f ps) n) (named ps n) (named_renamed f ps n)

pub renamed_some : {A B : Type 0} (f : A → B) (ns : List (Name × A)) (n : Name) (a : A) → named ns n ≡ Some a → named (renamed f ns) n ≡ Some (f a)
renamed_some f ns n a h = named_renamed f ns n ∙ ap (option_map f) h

pub renamed_none : {A B : Type 0} (f : A → B) (ns : List (Name × A)) (n : Name) → named ns n ≡ None → named (renamed f ns) n ≡ None
renamed_none f ns n h = named_renamed f ns n ∙ ap (option_map f) h

pub renamed_append : {A B : Type 0} (f : A → B) (ms ns : List (Name × A)) → renamed f (ms ++ ns) ≡ renamed f ms ++ renamed f ns
renamed_append f [] ns = refl
renamed_append f (p ∷ ps) ns = ap (λ l. (p.0, f p.1) ∷ l) (renamed_append f ps ns)

pub renamed_length : {A B : Type 0} (f : A → B) (ns : List (Name × A)) → length (renamed f ns) ≡ length ns
renamed_length f [] = refl
renamed_length f (p ∷ ps) = ap suc (renamed_length f ps)

pub renamed_drop : {A B : Type 0} (f : A → B) (k : ℕ) (ns : List (Name × A)) → renamed f (drop k ns) ≡ drop k (renamed f ns)
renamed_drop f zero ns = refl
renamed_drop f (suc k) [] = refl
renamed_drop f (suc k) (p ∷ ps) = renamed_drop f k ps

-- what the first list has counts, and else what the second has
abbrev pub either_named : {A : Type 0} → Option A → Option A → Option A
either_named (Some a) o = Some a
either_named None o = o

named_later : {A : Type 0} (b : Bool) (a : A) (o p q : Option A) → o ≡ either_named p q → cond b (Some a) o ≡ either_named (cond b (Some a) p) q
named_later true a o p q h = refl
named_later false a o p q h = h

pub named_append : {A : Type 0} (ms ns : List (Name × A)) (n : Name) → named (ms ++ ns) n ≡ either_named (named ms n) (named ns n)
named_append [] ns n = refl
named_append (p ∷ ps) ns n = named_later (equal_names p.0 n) p.1 (named (ps ++ ns) n) (named ps n) (named ns n) (named_append ps ns n)

pub named_first : {A : Type 0} (ms ns : List (Name × A)) (n : Name) (a : A) → named ms n ≡ Some a → named (ms ++ ns) n ≡ Some a
named_first ms ns n a h = named_append ms ns n ∙ ap (λ o. either_named o (named ns n)) h

pub named_second : {A : Type 0} (ms ns : List (Name × A)) (n : Name) → named ms n ≡ None → named (ms ++ ns) n ≡ named ns n
named_second ms ns n h = named_append ms ns n ∙ ap (λ o. either_named o (named ns n)) h

-- ---- types that are in the table

BelowIfSome : ℕ → Option KnownType → Type 0
BelowIfSome n o = (t : KnownType) → o ≡ Some t → Below n t

below_step : (n : ℕ) (b : Bool) (t : KnownType) (o : Option KnownType) → Below n t → BelowIfSome n o → BelowIfSome n (cond b (Some t) o)
unfolding BelowIfSome
below_step n true t o h k u e = let same : t ≡ u = cc in subst (λ t. Below n t) same h
below_step n false t o h k u e = k u e

values_below : (n : ℕ) (ns : List (Name × KnownType)) (m : Name) → ValuesBelow n ns → BelowIfSome n (named ns m)
unfolding BelowIfSome
values_below n [] m b = λ t h. cc
values_below n (p ∷ ps) m b = below_step n (equal_names p.0 m) p.1 (named ps m) b.0 (values_below n ps m b.1)

pub value_below : (n : ℕ) (ns : List (Name × KnownType)) (m : Name) (t : KnownType) → ValuesBelow n ns → named ns m ≡ Some t → Below n t
unfolding BelowIfSome
value_below n ns m t b h = values_below n ns m b t h

OperationIfSome : ℕ → Option OperationShape → Type 0
OperationIfSome n o = (x : OperationShape) → o ≡ Some x → Below n x.argument × Below n x.result

operation_step : (n : ℕ) (b : Bool) (x : OperationShape) (o : Option OperationShape) → Below n x.argument → Below n x.result → OperationIfSome n o → OperationIfSome n (cond b (Some x) o)
unfolding OperationIfSome
operation_step n true x o h g k u e = let same : x ≡ u = cc in subst (λ (x : OperationShape). Below n x.argument × Below n x.result) same (h, g)
operation_step n false x o h g k u e = k u e

operations_below : (n : ℕ) (ns : List (Name × OperationShape)) (m : Name) → OperationsBelow n ns → OperationIfSome n (named ns m)
unfolding OperationIfSome
operations_below n [] m b = λ x h. cc
operations_below n (p ∷ ps) m b = operation_step n (equal_names p.0 m) p.1 (named ps m) b.0 b.1 (operations_below n ps m b.2)

pub operation_below : (n : ℕ) (ns : List (Name × OperationShape)) (m : Name) (o : OperationShape) → OperationsBelow n ns → named ns m ≡ Some o
    → Below n o.argument × Below n o.result
unfolding OperationIfSome
operation_below n ns m o b h = operations_below n ns m b o h

pub values_append : (n : ℕ) (ms ns : List (Name × KnownType)) → ValuesBelow n ms → ValuesBelow n ns → ValuesBelow n (ms ++ ns)
values_append n [] ns a b = b
values_append n (p ∷ ps) ns a b = (a.0, values_append n ps ns a.1 b)

pub values_drop : (n k : ℕ) (ns : List (Name × KnownType)) → ValuesBelow n ns → ValuesBelow n (drop k ns)
values_drop n zero ns b = b
values_drop n (suc k) [] b = b
values_drop n (suc k) (p ∷ ps) b = values_drop n k ps b.1

pub values_extend : (ts us : List ValueType) (ns : List (Name × KnownType)) → Extends ts us → ValuesBelow (length ts) ns → ValuesBelow (length us) ns
values_extend ts us [] x b = tt
values_extend ts us (p ∷ ps) x b = (below_extends ts us p.1 x b.0, values_extend ts us ps x b.1)

pub values_kept : (ts us : List ValueType) (ns : List (Name × KnownType)) → Extends ts us → ValuesBelow (length ts) ns
    → renamed (type_in us) ns ≡ renamed (type_in ts) ns
values_kept ts us [] x b = refl
values_kept ts us (p ∷ ps) x b = ap₂ (λ A l. (p.0, A) ∷ l) (type_extends ts us p.1 x b.0) (values_kept ts us ps x b.1)

pub operations_extend : (ts us : List ValueType) (ns : List (Name × OperationShape)) → Extends ts us → OperationsBelow (length ts) ns → OperationsBelow (length us) ns
operations_extend ts us [] x b = tt
operations_extend ts us (p ∷ ps) x b = (below_extends ts us p.1.argument x b.0, below_extends ts us p.1.result x b.1, operations_extend ts us ps x b.2)

pub operations_kept : (ts us : List ValueType) (ns : List (Name × OperationShape)) → Extends ts us → OperationsBelow (length ts) ns
    → renamed (operation_in us) ns ≡ renamed (operation_in ts) ns
operations_kept ts us [] x b = refl
operations_kept ts us (p ∷ ps) x b =
    ap₃ (λ A B l. (p.0, (A, B)) ∷ l) (type_extends ts us p.1.argument x b.0) (type_extends ts us p.1.result x b.1) (operations_kept ts us ps x b.2)
  where
    ap₃ : {A B C D : Type 0} (f : A → B → C → D) {a b : A} {c d : B} {e g : C} → a ≡ b → c ≡ d → e ≡ g → f a c e ≡ f b d g
    ap₃ f p q r = cc

-- ---- the stack of names within a command

pub listed_both : {A : Type 0} (ns : List (Name × A)) (xs : List (Entry A)) → listed_before ns xs ≡ listed xs ++ ns
listed_both ns [] = refl
listed_both ns (x ∷ xs) =
    listed_both ((x.name, x.meaning) ∷ ns) xs
    ∙ sym (append_assoc (listed xs) ((x.name, x.meaning) ∷ []) ns)
    ∙ sym (ap (λ l. l ++ ns) (listed_both ((x.name, x.meaning) ∷ []) xs))

pub listed_parts : {A : Type 0} (xs ys : List (Entry A)) → listed (xs ++ ys) ≡ listed ys ++ listed xs
listed_parts xs ys = listed_append [] xs ys ∙ listed_both (listed xs) ys

pub listed_length : {A : Type 0} (ns : List (Name × A)) (xs : List (Entry A)) → length (listed_before ns xs) ≡ length xs + length ns
listed_length ns [] = omega arith
listed_length ns (x ∷ xs) = omega (arith, listed_length ((x.name, x.meaning) ∷ ns) xs)

pub drop_front : {A : Type 0} (xs ys : List A) (k : ℕ) → k ≡ length xs → drop k (xs ++ ys) ≡ ys
drop_front [] ys zero h = refl
drop_front [] ys (suc k) h = cc
drop_front (x ∷ xs) ys zero h = cc
drop_front (x ∷ xs) ys (suc k) h = drop_front xs ys k (omega arith)

-- the first k entries are left
pub listed_take : {A : Type 0} (xs : List (Entry A)) (k : ℕ) → k ≤ length xs → listed (take k xs) ≡ drop (length xs - k) (listed xs)
listed_take xs k l =
    let n : length xs - k ≡ length (listed (drop k xs)) = omega (arith, listed_length [] (drop k xs), length-drop k xs) in
    sym (sym (ap (λ ys. drop (length xs - k) (listed ys)) (take-append-drop k xs))
    ∙ ap (drop (length xs - k)) (listed_parts (take k xs) (drop k xs)) ∙ drop_front (listed (drop k xs)) (listed (take k xs)) (length xs - k) n)

pub pushed_checker : (n : ℕ) (vs : List (Name × KnownType)) (os : List (Name × OperationShape)) (xs : List (Entry KnownType)) (x : Entry KnownType)
    → IsChecker n vs os (listed xs) → Below n x.meaning → IsChecker n vs os (listed (xs ++ x ∷ []))
pushed_checker n vs os xs x c b = record {
  values_are = c.values_are;
  operations_are = c.operations_are;
  locals_are = subst (λ l. ValuesBelow n l) (sym (listed_append [] xs (x ∷ []))) (b, c.locals_are);
}

pub entered_checker : (n : ℕ) (vs : List (Name × KnownType)) (os : List (Name × OperationShape)) (xs ys : List (Entry KnownType))
    → IsChecker n vs os (listed xs) → ValuesBelow n (listed ys) → IsChecker n vs os (listed (xs ++ ys))
entered_checker n vs os xs ys c b = record {
  values_are = c.values_are;
  operations_are = c.operations_are;
  locals_are = subst (λ l. ValuesBelow n l) (sym (listed_parts xs ys)) (values_append n (listed ys) (listed xs) b c.locals_are);
}

pub left_checker : (n : ℕ) (vs : List (Name × KnownType)) (os : List (Name × OperationShape)) (xs : List (Entry KnownType)) (k : ℕ) → k ≤ length xs
    → IsChecker n vs os (listed xs) → IsChecker n vs os (listed (take k xs))
left_checker n vs os xs k l c = record {
  values_are = c.values_are;
  operations_are = c.operations_are;
  locals_are = subst (λ l. ValuesBelow n l) (sym (listed_take xs k l)) (values_drop n (length xs - k) (listed xs) c.locals_are);
}

pub grown_checker : (ts us : List ValueType) (vs : List (Name × KnownType)) (os : List (Name × OperationShape)) (ls : List (Name × KnownType)) → Extends ts us
    → IsChecker (length ts) vs os ls → IsChecker (length us) vs os ls
grown_checker ts us vs os ls x c = record {
  values_are = values_extend ts us vs x c.values_are;
  operations_are = operations_extend ts us os x c.operations_are;
  locals_are = values_extend ts us ls x c.locals_are;
}

-- one entry less is searched
pub last_step : (xs : List (Entry KnownType)) (k : ℕ) (x : Entry KnownType) (n : Name) → 0 < k → k ≤ length xs → x ≡ get_or xs (k - 1) x
    → named (listed (take k xs)) n ≡ cond (equal_names x.name n) (Some x.meaning) (named (listed (take (k - 1) xs)) n)
last_step xs zero x n some l is = absurd (omega arith)
last_step xs (suc k) x n some l is =
    let less : suc k - 1 ≡ k = omega arith in
    let here : get_or xs k x ≡ x = sym (is ∙ ap (λ m. get_or xs m x) less) in
    let e : take (suc k) xs ≡ take k xs ++ x ∷ [] = take-suc xs k x (omega arith) ∙ ap (λ y. take k xs ++ y ∷ []) here in
    ap (λ l. named (listed l) n) e ∙ ap (λ l. named l n) (listed_append [] (take k xs) (x ∷ []))
    ∙ ap (λ m. cond (equal_names x.name n) (Some x.meaning) (named (listed (take m xs)) n)) (sym less)

pub last_found : (xs : List (Entry KnownType)) (k : ℕ) (x : Entry KnownType) (n : Name) → 0 < k → k ≤ length xs → x ≡ get_or xs (k - 1) x → bytes_eq x.name n ≡ true
    → Some x.meaning ≡ named (listed (take k xs)) n
last_found xs k x n some l is e =
    sym (last_step xs k x n some l is ∙ ap (λ b. cond b (Some x.meaning) (named (listed (take (k - 1) xs)) n)) (sym (bytes_eq-names x.name n) ∙ e))

pub last_other : (xs : List (Entry KnownType)) (k : ℕ) (x : Entry KnownType) (n : Name) → 0 < k → k ≤ length xs → x ≡ get_or xs (k - 1) x → bytes_eq x.name n ≡ false
    → named (listed (take k xs)) n ≡ named (listed (take (k - 1) xs)) n
last_other xs k x n some l is e =
    last_step xs k x n some l is ∙ ap (λ b. cond b (Some x.meaning) (named (listed (take (k - 1) xs)) n)) (sym (bytes_eq-names x.name n) ∙ e)

-- ---- a table that goes on

-- what is seen of a checker
abbrev pub seen : List ValueType → List (Name × KnownType) → List (Name × RuleShape) → List (Name × OperationShape) → List (Name × KnownType) → Checking
seen ts vs rs os ls = record {
  top = record { values = renamed (type_in ts) vs; rules = renamed rule_in rs; operations = renamed (operation_in ts) os };
  locals = renamed (type_in ts) ls;
  types = ts;
}

abbrev top_of : List (Name × ValueType) → List (Name × RuleType) → List (Name × (ValueType × ValueType)) → Scope
top_of a b c = record { values = a; rules = b; operations = c }

pub grown_keeps : (ts us : List ValueType) (vs : List (Name × KnownType)) (rs : List (Name × RuleShape)) (os : List (Name × OperationShape)) (ls : List (Name × KnownType)) (v : Checking)
    → Extends ts us → IsChecker (length ts) vs os ls → seen ts vs rs os ls ≡ v → Keeps v (seen us vs rs os ls)
grown_keeps ts us vs rs os ls v x c is = record {
  top = ap₂ (λ a b. top_of a (renamed rule_in rs) b) (values_kept ts us vs x c.values_are) (operations_kept ts us os x c.operations_are) ∙ ap (λ (v : Checking). v.top) is;
  types = subst (λ (v : Checking). Extends v.types us) is x;
}
