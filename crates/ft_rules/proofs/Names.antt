-- Whether a rule of a name can be declared.
use Rattle.std.proofs.Common.{◌≡◌, ◌∙◌, ℕ, ◌<◌, ◌≤◌, true, false, nat_lt, Option, Some, None, List, [], length, sym, ap, ap₂, arith}
use Rattle.std.specs.Prelude.{Ok, Err, is_some, is_none}
use Rattle.std.proofs.lemmas.Bool.{lt-ltb, le-ltb}
use Rattle.std.proofs.lemmas.List.{length-map}
use Rattle.ft_items.specs.Item.{Name, Item}
use Rattle.ft_items.specs.Store.{declared_by, rules_in}
use Rattle.ft_items.specs.Good.{is_new, Good}
use Rattle.ft_items.proofs.Lists.{store_is}
use Rattle.ft_reference.specs.Declare as reference
use Rattle.ft_reference.specs.Declare.{outcome, first_of, refused_unless, name_fault}
use Rattle.ft_nucleus_laws.proofs.Declaring.{drafts_grow}
use Rattle.ft_kernel.specs.State.{rule_names}
use Rattle.ft_rules.specs.Drafts.{Drafted, draft_in, IsDraftOver}
use Rattle.ft_rules.specs.Answers.{Begins, IsNameFault}
use Rattle.ft_rules.specs.declared.fault.RuleFault.{RuleFault}
use Rattle.ft_rules.specs.declared.fault.RuleFault.TheVariants.{Duplicate, TooMany, OpenPremise, OpenConclusion, Memory}

pub rules_many : (items : List Item) → Good items → length (declared_by items).rules ≡ length (rules_in items)
rules_many items g = ap length (store_is items g).rules ∙ length-map (rules_in items) _

names_same : (items : List Item) → Good items → (declared_by items).names ≡ rule_names items
names_same items g = (store_is items g).names

pub name_taken : (items : List Item) (n : Name) (o : Option ℕ) → Good items → is_none o ≡ is_new (rule_names items) n → is_some o ≡ true → name_fault (declared_by items) n ≡ Some reference.Duplicate
name_taken items n (Some r) g h s =
    ap (λ b. first_of (refused_unless b reference.Duplicate) (refused_unless (nat_lt (length (declared_by items).rules) 65536) reference.TooMany)) (ap (λ ns. is_new ns n) (names_same items g) ∙ sym h)
name_taken items n None g h s = cc

name_new : (items : List Item) (n : Name) (o : Option ℕ) → Good items → is_none o ≡ is_new (rule_names items) n → is_some o ≡ false → is_new (declared_by items).names n ≡ true
name_new items n (Some r) g h s = cc
name_new items n None g h s = ap (λ ns. is_new ns n) (names_same items g) ∙ sym h

pub too_many : (items : List Item) (n : Name) (o : Option ℕ) (c : ℕ) → Good items → is_none o ≡ is_new (rule_names items) n → is_some o ≡ false → c ≡ length (rules_in items) → 65536 ≤ c → name_fault (declared_by items) n ≡ Some reference.TooMany
too_many items n o c g h s e l =
    ap₂ (λ b c. first_of (refused_unless b reference.Duplicate) (refused_unless c reference.TooMany)) (name_new items n o g h s)
    (le-ltb (length (declared_by items).rules) 65536 (omega (arith, rules_many items g, e, l)))

pub name_free : (items : List Item) (n : Name) (o : Option ℕ) (c : ℕ) → Good items → is_none o ≡ is_new (rule_names items) n → is_some o ≡ false → c ≡ length (rules_in items) → c < 65536 → name_fault (declared_by items) n ≡ None
name_free items n o c g h s e l =
    ap₂ (λ b c. first_of (refused_unless b reference.Duplicate) (refused_unless c reference.TooMany)) (name_new items n o g h s)
    (lt-ltb (length (declared_by items).rules) 65536 (omega (arith, rules_many items g, e, l)))

-- a fault of the name is the call's
pub begin_refused : (items : List Item) (n : Name) (f : RuleFault) → IsNameFault (name_fault (declared_by items) n) (Err f) → Begins items n (Err f)
begin_refused items n Duplicate h = ap (λ o. (outcome o (declared_by items) (declared_by items) (record { name = n; premises = [] })).answer) h
begin_refused items n TooMany h = ap (λ o. (outcome o (declared_by items) (declared_by items) (record { name = n; premises = [] })).answer) h
begin_refused items n (OpenPremise i a) h = absurd h
begin_refused items n (OpenConclusion a) h = absurd h
begin_refused items n Memory h = absurd h

pub begun : (items : List Item) (n : Name) (d : Drafted) → name_fault (declared_by items) n ≡ None → d ≡ record { name = n; premises = [] } → Begins items n (Ok d)
begun items n d h e =
    ap (λ o. (outcome o (declared_by items) (declared_by items) (record { name = n; premises = [] })).answer) h ∙ ap (λ (d : Drafted). Ok (draft_in items d)) (sym e)

pub begun_draft : (items : List Item) (n : Name) (d : Drafted) → name_fault (declared_by items) n ≡ None → d ≡ record { name = n; premises = [] } → IsDraftOver items d
begun_draft items n d h e = drafts_grow.0 (declared_by items) n (draft_in items d) (begun items n d h e)
