-- The reasons against a rule.
use Rattle.std.proofs.Common.{◌≡◌, ℕ, Bool, true, false, ◌&&◌, not, Option, Some, None, List, [], refl, sym, ap, ap₂, ◌∙◌, map}
use Rattle.std.specs.Prelude.{is_some}
use Rattle.ft_items.specs.Item.{Item}
use Rattle.ft_items.specs.Sets.{met, is_within}
use Rattle.ft_items.specs.Store.{Assertion, Declared, each, metavariable_named, declared_by}
use Rattle.ft_items.specs.Equal.{is_thesis, is_plain}
use Rattle.ft_items.specs.Rows.{atoms, differ, on_earlier}
use Rattle.ft_items.specs.Good.{Reject as Reason, Reference as reference, Kind as kind, Named as named, Many as many, Loose as loose, Good, reason_of_rule, unless}
use Rattle.ft_check.specs.Entries.{boundary_set, rest_on_earlier}
use Rattle.ft_check.proofs.Premises.{atoms_are, earlier_is}

pub rule_taken : (b : Bool) (r : Option Reason) → false ≡ b → Some named ≡ unless b named r
rule_taken b r f = ap (λ b. unless b named r) f

pub rule_too_many : (b c : Bool) (r : Option Reason) → true ≡ b → c ≡ false → Some many ≡ unless b named (unless c many r)
rule_too_many b c r t f = ap₂ (λ b c. unless b named (unless c many r)) t (sym f)

pub rule_so_far : (b c : Bool) (r x : Option Reason) → true ≡ b → c ≡ true → r ≡ x → r ≡ unless b named (unless c many x)
rule_so_far b c r x t f e = e ∙ ap₂ (λ b c. unless b named (unless c many x)) t (sym f)

pub rule_unknown : (os : Option (List (ℕ × Declared))) (o : Option Assertion) → is_some os ≡ false → Some reference ≡ reason_of_rule os o
rule_unknown None o f = refl
rule_unknown (Some ds) o f = let clash : true ≡ false = f in cc

pub rule_no_entry : (os : Option (List (ℕ × Declared))) (o : Option Assertion) → None ≡ o → Some reference ≡ reason_of_rule os o
rule_no_entry None o e = refl
rule_no_entry (Some ds) o e = ap (reason_of_rule (Some ds)) e

pub rule_with_entry : (os : Option (List (ℕ × Declared))) (o : Option Assertion) (a : Assertion) (r : Option Reason) → is_some os ≡ true → Some a ≡ o → ((ds : List (ℕ × Declared)) → os ≡ Some ds → r ≡ reason_of_rule (Some ds) (Some a)) → r ≡ reason_of_rule os o
rule_with_entry None o a r t e f = let clash : false ≡ true = t in cc
rule_with_entry (Some ds) o a r t e f = f ds refl ∙ ap (reason_of_rule (Some ds)) e

-- the conclusion
abbrev kinds : List (ℕ × Declared) → Assertion → Bool
kinds ds a = differ (atoms ds) && not (is_thesis a.statement) && is_plain a.statement

kinds_are : (items : List Item) (ms : List ℕ) (ds : List (ℕ × Declared)) (a : Assertion) (b : Bool) → each (metavariable_named (declared_by items)) ms ≡ Some ds
    → b ≡ (differ (map met ms) && not (is_thesis a.statement) && is_plain a.statement) → b ≡ kinds ds a
kinds_are items ms ds a b h e = e ∙ ap (λ S. differ S && not (is_thesis a.statement) && is_plain a.statement) (sym (atoms_are items ms ds h))

tight_is : (items : List Item) (ms : List ℕ) (ds : List (ℕ × Declared)) (a : Assertion) (c : Bool) → Good items → each (metavariable_named (declared_by items)) ms ≡ Some ds
    → c ≡ (rest_on_earlier (boundary_set items) [] ms && is_within a.set (map met ms)) → c ≡ (on_earlier [] ds && is_within a.set (atoms ds))
tight_is items ms ds a c g h e = e ∙ ap₂ (λ b S. b && is_within a.set S) (earlier_is items [] ms ds g h) (sym (atoms_are items ms ds h))

pub rule_kind : (items : List Item) (ms : List ℕ) (ds : List (ℕ × Declared)) (a : Assertion) (b : Bool) → each (metavariable_named (declared_by items)) ms ≡ Some ds
    → b ≡ (differ (map met ms) && not (is_thesis a.statement) && is_plain a.statement) → b ≡ false → Some kind ≡ reason_of_rule (Some ds) (Some a)
rule_kind items ms ds a b h e f = ap (λ t. unless t kind (unless (on_earlier [] ds && is_within a.set (atoms ds)) loose None)) (sym f ∙ kinds_are items ms ds a b h e)

pub rule_tight : (items : List Item) (ms : List ℕ) (ds : List (ℕ × Declared)) (a : Assertion) (b c : Bool) → Good items → each (metavariable_named (declared_by items)) ms ≡ Some ds
    → b ≡ (differ (map met ms) && not (is_thesis a.statement) && is_plain a.statement) → b ≡ true
    → c ≡ (rest_on_earlier (boundary_set items) [] ms && is_within a.set (map met ms)) → unless c loose None ≡ reason_of_rule (Some ds) (Some a)
rule_tight items ms ds a b c g h e t f = ap₂ (λ t c. unless t kind (unless c loose None)) (sym t ∙ kinds_are items ms ds a b h e) (tight_is items ms ds a c g h f)
