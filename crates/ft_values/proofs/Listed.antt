-- Names with their values, the last one first.
use Rattle.std.proofs.Common.{◌≡◌, ◌∙◌, ◌++◌, sym, ap, refl, List, [], ◌∷◌}
use Rattle.std.specs.Prelude.{cond, Some}
use Rattle.std.specs.Map.{lookup}
use Rattle.std.specs.Str.{bytes_eq}
use Rattle.ft_items.specs.Item.{Name}
use Rattle.ft_items.specs.Good.{equal_names}
use Rattle.ft_items.proofs.Names.{bytes_eq-names}
use Rattle.ft_meaning.specs.Names.{named}
use Rattle.ft_values.specs.declared.names.Entry.{Entry}
use Rattle.ft_values.specs.declared.values.Value.{Value}
use Rattle.ft_values.specs.Names.{listed_before, HasLast}

pub listed_append : (ns : List (Name × Value)) (xs ys : List Entry) → listed_before ns (xs ++ ys) ≡ listed_before (listed_before ns xs) ys
listed_append ns [] ys = refl
listed_append ns (x ∷ xs) ys = listed_append ((x.name, x.value) ∷ ns) xs ys

pub has_more : (xs : List Entry) (x : Entry) (last last2 : List (Name × Value)) → HasLast xs last
    → ((n : Name) → lookup (bytes_eq n) last2 ≡ cond (bytes_eq x.name n) (Some x.value) (lookup (bytes_eq n) last)) → HasLast (xs ++ x ∷ []) last2
has_more xs x last last2 h updates = record {
  found = λ n. updates n ∙ ap (λ b. cond b (Some x.value) (lookup (bytes_eq n) last)) (bytes_eq-names x.name n)
      ∙ ap (λ o. cond (equal_names x.name n) (Some x.value) o) (h.found n)
      ∙ sym (ap (λ ns. named ns n) (listed_append [] xs (x ∷ [])));
}
