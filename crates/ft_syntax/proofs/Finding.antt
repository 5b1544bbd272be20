-- The search for a row: over the rows of a mark, and then by the spelling.
use Rattle.std.proofs.Common.{◌≡◌, ◌≢◌, ℕ, zero, suc, ◌<◌, ◌≤◌, inl, inr, List, [], ◌∷◌, length, map, slice_get, Option, Some, None, IfSome, refl, sym, ap, ap₂, ◌∙◌, subst, arith}
use Rattle.std.proofs.lemmas.Bool.{cases_order}
use Rattle.ft_theory.specs.Expressions.{Expression}
use Rattle.ft_syntax.specs.Arguments.{applied, FitsNode}
use Rattle.ft_syntax.specs.Table.{tree, IsNew, argument_in, ArgumentsBelow}
use Rattle.ft_syntax.specs.Chains.{after, mark, spelled, place_in, HasMark, IsLast}
use Rattle.ft_syntax.specs.Invariant.{own, trees_after, IsTable}
use Rattle.ft_syntax.specs.declared.syntax.Arg.{Arg}
use Rattle.ft_syntax.specs.declared.syntax.Node.{Node}
use Rattle.ft_syntax.specs.declared.table.Row.{Row}
use Rattle.ft_syntax.specs.declared.crowded.Crowded.{Crowded}
use Rattle.ft_syntax.proofs.Chained.{mark_within}
use Rattle.ft_syntax.proofs.Different.{key_same}
use Rattle.ft_syntax.proofs.Tables.{row_got, length_trees}

-- none of the rows of the mark past this one has the tree
pub record Looked (ts : List Expression) (ms : List (Option ℕ)) (m : ℕ) (t : Expression) (at : Option ℕ) : Type 0 where
  pub there : IfSome at (HasMark ms m)
  pub none : (q : ℕ) → after at ≤ q → HasMark ms m q → tree ts q ≢ t

pub look_start : (ts : List Expression) (ms : List (Option ℕ)) (m : ℕ) (t : Expression) (r : Option ℕ) → IsLast (HasMark ms m) (length ms) r → Looked ts ms m t r
look_start ts ms m t r l = record { there = l.holds; none = λ q i h e. l.none q i (mark_within ms m q h) h }

looked_at : (ts : List Expression) (ms : List (Option ℕ)) (m p : ℕ) (t : Expression) (at : Option ℕ) → Looked ts ms m t at → at ≡ Some p → Looked ts ms m t (Some p)
looked_at ts ms m p t at l e = subst (Looked ts ms m t) e l

pub look_marked : (ts : List Expression) (ms : List (Option ℕ)) (m p : ℕ) (t : Expression) (at : Option ℕ) → Looked ts ms m t at → at ≡ Some p → HasMark ms m p
look_marked ts ms m p t at l e = (looked_at ts ms m p t at l e).there

pub look_within : (parts : List Arg) (rows : List Row) (ms : List (Option ℕ)) (c : Crowded) (ts us : List Expression) (m p : ℕ) (t : Expression) (at : Option ℕ) → IsTable parts rows ms c → trees_after parts [] rows ≡ ts → Looked us ms m t at → at ≡ Some p → p < length ts
look_within parts rows ms c ts us m p t at g s l e =
    omega (arith, mark_within ms m p (look_marked us ms m p t at l e), g.found.as_many, length_trees parts [] rows, ap length s)

pub look_more : (ts : List Expression) (ms : List (Option ℕ)) (m p : ℕ) (t : Expression) (at r : Option ℕ) → Looked ts ms m t at → at ≡ Some p → (tree ts p ≡ t → ⊥) → IsLast (HasMark ms m) p r → Looked ts ms m t r
look_more ts ms m p t at r l e n s = record {
  there = s.holds;
  none = λ q i h. elim (cases_order q p) [
    | inl d ↦ λ u. n (ap (tree ts) (sym d) ∙ u)
    | inr a ↦ elim a [
      | inl d ↦ λ u. s.none q i d h
      | inr d ↦ (looked_at ts ms m p t at l e).none q d h
    ]
  ];
}

pub look_falls : (ms : List (Option ℕ)) (m p : ℕ) (at r : Option ℕ) → at ≡ Some p → IsLast (HasMark ms m) p r → after r < after at
look_falls ms m p at r e s = omega (arith, s.before, ap after e)

-- no row has the spelling and the tree
pub record Misses (ts : List Expression) (c : Crowded) (ks : List ℕ) (t : Expression) : Type 0 where
  pub none : (p : ℕ) → p < length ts → place_in c ks ≡ Some p → tree ts p ≢ t

pub misses_all : (ts : List Expression) (c : Crowded) (ks : List ℕ) (t : Expression) → ((js : List ℕ) → place_in c js ≡ None) → Misses ts c ks t
misses_all ts c ks t h = record { none = λ p l e. let bad : Some p ≡ None = sym e ∙ h ks in cc }

pub misses_none : (ts : List Expression) (c : Crowded) (ks js : List ℕ) (t : Expression) → js ≡ ks → None ≡ place_in c js → Misses ts c ks t
misses_none ts c ks js t s h = record { none = λ p l e. let bad : Some p ≡ None = sym e ∙ ap (place_in c) (sym s) ∙ sym h in cc }

some_same : (i j : ℕ) → Some i ≡ Some j → i ≡ j
some_same i j h = cc

pub misses_past : (ts : List Expression) (c : Crowded) (ks js : List ℕ) (t : Expression) (q : ℕ) → js ≡ ks → Some q ≡ place_in c js → length ts ≤ q → Misses ts c ks t
misses_past ts c ks js t q s h i = record { none = λ p l e. let same : q ≡ p = some_same q p (h ∙ ap (place_in c) s ∙ e) in absurd (omega (arith, same, l, i)) }

pub misses_other : (ts : List Expression) (c : Crowded) (ks js : List ℕ) (t : Expression) (q : ℕ) → js ≡ ks → Some q ≡ place_in c js → (tree ts q ≡ t → ⊥) → Misses ts c ks t
misses_other ts c ks js t q s h n = record { none = λ p l e u. let same : q ≡ p = some_same q p (h ∙ ap (place_in c) s ∙ e) in n (ap (tree ts) same ∙ u) }

got : (rows : List Row) (e : ℕ) → e < length rows → (r : Row) × (slice_get rows e ≡ Some r)
got [] e l = absurd (omega arith)
got (r ∷ rows) zero l = (r, refl)
got (r ∷ rows) (suc e) l = got rows e (omega arith)

-- where neither way finds it, it is new
all_missed : (parts : List Arg) (rows : List Row) (ms : List (Option ℕ)) (c : Crowded) (m : ℕ) (h : Node) (xs : List Arg) → let ts = trees_after parts [] rows in IsTable parts rows ms c → m ≡ mark h xs → ArgumentsBelow (length ts) xs → FitsNode h (map (argument_in ts) xs) →
    Looked ts ms m (applied h (map (argument_in ts) xs)) None → Misses ts c (spelled h xs) (applied h (map (argument_in ts) xs)) → IsNew ts (applied h (map (argument_in ts) xs))
all_missed parts rows ms c m h xs g s b f l n = record { none = λ e i u. at e i u (got rows e (omega (arith, i, length_trees parts [] rows))) }
  where
    at : (e : ℕ) → e < length (trees_after parts [] rows) → tree (trees_after parts [] rows) e ≡ applied h (map (argument_in (trees_after parts [] rows)) xs) → (r : Row) × (slice_get rows e ≡ Some r) → ⊥
    at e i u r =
        let ts = trees_after parts [] rows in
        let w = row_got parts rows e r.0 g.good r.1 in
        let k = key_same ts e h (own parts r.0) xs g.different w.arguments b f u in
        let node : r.0.node ≡ h = sym w.row.node_is ∙ k.0 in
        elim (g.found.found e r.0 r.1) [
          | inl q ↦ l.none e (omega arith) (q ∙ ap Some (ap₂ mark node k.1 ∙ sym s)) u
          | inr q ↦ n.none e i (ap (place_in c) (sym (ap₂ spelled node k.1)) ∙ q) u
        ]

pub none_found : (parts : List Arg) (rows : List Row) (ms : List (Option ℕ)) (c : Crowded) (ts : List Expression) (m : ℕ) (h : Node) (xs : List Arg) (at : Option ℕ) → trees_after parts [] rows ≡ ts → IsTable parts rows ms c → m ≡ mark h xs → ArgumentsBelow (length ts) xs → FitsNode h (map (argument_in ts) xs) →
    Looked ts ms m (applied h (map (argument_in ts) xs)) at → at ≡ None → Misses ts c (spelled h xs) (applied h (map (argument_in ts) xs)) → IsNew ts (applied h (map (argument_in ts) xs))
none_found parts rows ms c ts m h xs at e g s b f l z n =
    let l0 : Looked ts ms m (applied h (map (argument_in ts) xs)) None = subst (Looked ts ms m (applied h (map (argument_in ts) xs))) z l in
    go (trees_after parts [] rows) e b f l0 n (λ b f l n. all_missed parts rows ms c m h xs g s b f l n)
  where
    go : (us : List Expression) → us ≡ ts → ArgumentsBelow (length ts) xs → FitsNode h (map (argument_in ts) xs) → Looked ts ms m (applied h (map (argument_in ts) xs)) None → Misses ts c (spelled h xs) (applied h (map (argument_in ts) xs)) →
        (ArgumentsBelow (length us) xs → FitsNode h (map (argument_in us) xs) → Looked us ms m (applied h (map (argument_in us) xs)) None → Misses us c (spelled h xs) (applied h (map (argument_in us) xs)) → IsNew us (applied h (map (argument_in us) xs))) → IsNew ts (applied h (map (argument_in ts) xs))
    go us e b f l n k =
        subst (λ (vs : List Expression). (ArgumentsBelow (length vs) xs → FitsNode h (map (argument_in vs) xs) → Looked vs ms m (applied h (map (argument_in vs) xs)) None → Misses vs c (spelled h xs) (applied h (map (argument_in vs) xs)) → IsNew vs (applied h (map (argument_in vs) xs)))) e k b f l n
