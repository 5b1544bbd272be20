-- A table to which a row is added.
use Rattle.std.proofs.Common.{◌≡◌, ◌≢◌, ℕ, zero, suc, ◌⊎◌, inl, inr, List, [], ◌∷◌, ◌++◌, length, map, take, ◌-◌, slice_get, Option, Some, None, refl, sym, ap, ap₂, ◌∙◌, subst, arith, length-append}
use Rattle.std.proofs.lemmas.Option.{same_Some}
use Rattle.std.proofs.lemmas.List.{take-append-le}
use Rattle.std.proofs.Math.Seq.{get_or-append_seam, take-length}
use Rattle.ft_theory.specs.Expressions.{Expression}
use Rattle.ft_syntax.specs.Arguments.{applied}
use Rattle.ft_syntax.specs.Table.{AreDifferent, IsNew, argument_in}
use Rattle.ft_syntax.specs.Chains.{mark, spelled, place_in, HasMark, IsFound, IsNoted, KeepsOthers}
use Rattle.ft_syntax.specs.Invariant.{own, trees_after, AreGoodRows, IsTable}
use Rattle.ft_syntax.specs.declared.syntax.Arg.{Arg}
use Rattle.ft_syntax.specs.declared.syntax.Node.{Node}
use Rattle.ft_syntax.specs.declared.table.Row.{Row}
use Rattle.ft_syntax.specs.declared.crowded.Crowded.{Crowded}
use Rattle.ft_syntax.proofs.Chained.{marked_still}
use Rattle.ft_syntax.proofs.Spelling.{spelled_same}
use Rattle.ft_syntax.proofs.Different.{row_tree_is, none_different, different_more}
use Rattle.ft_syntax.proofs.Tables.{IsNewRow, own_append, own_last, row_got, trees_kept, rows_kept, trees_pushed, rows_pushed}

pub table_none : (parts : List Arg) (rows : List Row) (ms : List (Option ℕ)) (c : Crowded) → parts ≡ [] → rows ≡ [] → ms ≡ [] → IsTable parts rows ms c
table_none parts rows ms c p r m =
    subst (λ ps. IsTable ps rows ms c) (sym p) (subst (λ rs. IsTable [] rs ms c) (sym r) (subst (λ ns. IsTable [] [] ns c) (sym m) (record { good = tt; different = none_different; found = record { as_many = refl; found = λ p r h. cc } })))

-- a row is noted
pub noted_marked : (ms now : List (Option ℕ)) (c : Crowded) (p m : ℕ) (h : Node) (xs : List Arg) → p ≡ length ms → m ≡ mark h xs → now ≡ ms ++ Some m ∷ [] → IsNoted ms now c p h xs
noted_marked ms now c p m h xs e s n =
    record { last = Some m; is = n; found = inl (subst (λ ns. HasMark ns (mark h xs) p) (sym n) (subst (HasMark (ms ++ Some m ∷ []) (mark h xs)) (sym e) (get_or-append_seam ms (Some m) [] None ∙ ap Some s))) }

pub noted_spelled : (ms now : List (Option ℕ)) (c : Crowded) (p : ℕ) (h : Node) (xs : List Arg) (ks : List ℕ) → ks ≡ spelled h xs → place_in c ks ≡ Some p → now ≡ ms ++ None ∷ [] → IsNoted ms now c p h xs
noted_spelled ms now c p h xs ks s g n = record { last = None; is = n; found = inr (ap (place_in c) (sym s) ∙ g) }

-- a row that is there is found as before
still_found : (parts : List Arg) (rows : List Row) (ms : List (Option ℕ)) (c d : Crowded) (h : Node) (xs : List Arg) (p : ℕ) (r : Row) → let ts = trees_after parts [] rows in IsTable parts rows ms c → IsNew ts (applied h (map (argument_in ts) xs)) → KeepsOthers c d (spelled h xs) →
    slice_get rows p ≡ Some r → IsFound ms d p r.node (own parts r)
still_found parts rows ms c d h xs p r g n k e = elim (g.found.found p r e) [
  | inl a ↦ inl a
  | inr a ↦ inr (k.same (spelled r.node (own parts r)) other ∙ a)
]
  where
    other : spelled r.node (own parts r) ≢ spelled h xs
    other s =
        let ts = trees_after parts [] rows in
        let w = row_got parts rows p r g.good e in
        let same = spelled_same r.node h (own parts r) xs s in
        n.none p w.row.within (row_tree_is ts p r.node (own parts r) w.arguments w.row.node_is ∙ ap₂ (λ f zs. applied f (map (argument_in ts) zs)) same.0 same.1)

found_longer : (parts args : List Arg) (rows : List Row) (ms : List (Option ℕ)) (c d : Crowded) (h : Node) (xs : List Arg) (p : ℕ) (r : Row) → let ts = trees_after parts [] rows in IsTable parts rows ms c → IsNew ts (applied h (map (argument_in ts) xs)) → KeepsOthers c d (spelled h xs) →
    slice_get rows p ≡ Some r → IsFound ms d p r.node (own (parts ++ args) r)
found_longer parts args rows ms c d h xs p r g n k e =
    let w = row_got parts rows p r g.good e in
    subst (IsFound ms d p r.node) (sym (own_append parts args r w.ordered w.there)) (still_found parts rows ms c d h xs p r g n k e)

pub trees_same : (parts now args : List Arg) (rows these : List Row) (ts : List Expression) → trees_after parts [] rows ≡ ts → now ≡ parts ++ args → these ≡ rows → AreGoodRows parts [] rows → trees_after now [] these ≡ ts
trees_same parts now args rows these ts v s a g = ap (trees_after now []) a ∙ trees_kept parts now args rows s g ∙ v

-- where arguments are put and no row
pub table_kept : (parts now args : List Arg) (rows these : List Row) (ms next : List (Option ℕ)) (c d : Crowded) (h : Node) (xs : List Arg) (ts : List Expression) → trees_after parts [] rows ≡ ts → now ≡ parts ++ args → these ≡ rows → IsTable parts rows ms c → next ≡ ms →
    IsNew ts (applied h (map (argument_in ts) xs)) → KeepsOthers c d (spelled h xs) → IsTable now these next d
table_kept parts now args rows these ms next c d h xs ts v s a g e n k =
    subst (λ rs. IsTable now rs next d) (sym a) (subst (λ ps. IsTable ps rows next d) (sym s) (subst (λ ns. IsTable (parts ++ args) rows ns d) (sym e) (record {
      good = rows_kept parts (parts ++ args) args rows refl g.good;
      different = subst AreDifferent (sym (trees_kept parts (parts ++ args) args rows refl g.good)) g.different;
      found = record { as_many = g.found.as_many; found = λ p r i. found_longer parts args rows ms c d h xs p r g (subst (λ us. IsNew us (applied h (map (argument_in us) xs))) (sym v) n) k i };
    })))

get_either : (rows : List Row) (r q : Row) (p : ℕ) → slice_get (rows ++ r ∷ []) p ≡ Some q → (slice_get rows p ≡ Some q) ⊎ ((p ≡ length rows) × (r ≡ q))
get_either [] r q zero h = inr (refl, same_Some r q h)
get_either [] r q (suc p) h = cc
get_either (x ∷ rows) r q zero h = inl h
get_either (x ∷ rows) r q (suc p) h = elim (get_either rows r q p h) [
  | inl a ↦ inl a
  | inr a ↦ inr (ap suc a.0, a.1)
]

found_more : (ms : List (Option ℕ)) (x : Option ℕ) (c : Crowded) (p : ℕ) (h : Node) (xs : List Arg) → IsFound ms c p h xs → IsFound (ms ++ x ∷ []) c p h xs
found_more ms x c p h xs (inl a) = inl (marked_still ms x (mark h xs) p a)
found_more ms x c p h xs (inr a) = inr a

-- where a row is put behind the others
pub table_pushed : (parts now args : List Arg) (rows these : List Row) (r : Row) (ms next : List (Option ℕ)) (c d : Crowded) (q : ℕ) → now ≡ parts ++ args → these ≡ rows ++ r ∷ [] → IsTable parts rows ms c → IsNewRow parts args (trees_after parts [] rows) r →
    IsNew (trees_after parts [] rows) (applied r.node (map (argument_in (trees_after parts [] rows)) args)) → q ≡ length rows → IsNoted ms next d q r.node args → KeepsOthers c d (spelled r.node args) → IsTable now these next d
table_pushed parts now args rows these r ms next c d q s a g w n o i k =
    subst (λ rs. IsTable now rs next d) (sym a) (subst (λ ps. IsTable ps (rows ++ r ∷ []) next d) (sym s) (record {
      good = rows_pushed parts (parts ++ args) args rows r refl g.good w;
      different = subst AreDifferent (sym (trees_pushed parts (parts ++ args) args rows r refl g.good w)) (different_more (trees_after parts [] rows) (applied r.node (map (argument_in (trees_after parts [] rows)) args)) g.different n);
      found = record {
        as_many = omega (arith, ap length i.is, g.found.as_many, length-append ms (i.last ∷ []), length-append rows (r ∷ []));
        found = λ p x h. elim (get_either rows r x p h) [
          | inl a ↦ subst (λ ns. IsFound ns d p x.node (own (parts ++ args) x)) (sym i.is) (found_more ms i.last d p x.node (own (parts ++ args) x) (found_longer parts args rows ms c d r.node args p x g n k a))
          | inr a ↦ subst (λ (y : Row). IsFound next d p y.node (own (parts ++ args) y)) a.1
              (subst (IsFound next d p r.node) (sym (own_last parts args r w.first_is w.end_is)) (subst (λ j. IsFound next d j r.node args) (o ∙ sym a.0) i.found))
        ];
      };
    }))

-- a row that was put last is taken away
pub taken : (rows more less : List Row) (r : Row) (n : ℕ) → more ≡ rows ++ r ∷ [] → n ≡ length more → less ≡ take (n - 1) more → less ≡ rows
taken rows more less r n h l t =
    let count : n - 1 ≡ length rows = omega (arith, l, ap length h, length-append rows (r ∷ [])) in
    t ∙ ap₂ take count h ∙ take-append-le (length rows) rows (r ∷ []) (omega arith) ∙ take-length rows
