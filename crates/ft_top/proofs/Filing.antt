-- The text of a verdict, and of a file's fault.
use Rattle.std.proofs.Common.{◌≡◌, sym, subst, ℕ, List, ◌++◌, codes, decimal}
use Rattle.ft_base.specs.Names.{is_name_token}
use Rattle.ft_items.specs.Item.{Item}
use Rattle.ft_items.specs.Good.{Verdict, verdict}
use Rattle.ft_items.specs.Texts.{IsTextOf}
use Rattle.ft_items.specs.Faults.{Fault, Form, Version, HasFault}
use Rattle.ft_verdicts.specs.Verdicts.{IsVerdict, verdict_line, verdict_status, fault_line}

pub items_text : (bs text : List ℕ) (items : List Item) (v : Verdict) (n : ℕ) → IsTextOf is_name_token bs items → v ≡ verdict items → text ≡ verdict_line v → n ≡ verdict_status v
    → IsVerdict is_name_token bs text n
items_text bs text items v n t e h k =
    subst (λ n. IsVerdict is_name_token bs text n) (sym k) (subst (λ text. IsVerdict is_name_token bs text (verdict_status v)) (sym h)
    (subst (λ v. IsVerdict is_name_token bs (verdict_line v) (verdict_status v)) (sym e) (IsVerdict.of_items items t)))

fault_text : (bs text : List ℕ) (f : Fault) → HasFault is_name_token bs f → text ≡ fault_line f → IsVerdict is_name_token bs text 16
fault_text bs text f t h = subst (λ text. IsVerdict is_name_token bs text 16) (sym h) (IsVerdict.of_fault f t)

pub form_text : (bs text : List ℕ) (n : ℕ) → HasFault is_name_token bs (Form n) → text ≡ codes "error line " ++ decimal n ++ codes " form\n" → IsVerdict is_name_token bs text 16
form_text bs text n t h = fault_text bs text (Form n) t h

pub version_text : (bs text : List ℕ) (n : ℕ) → HasFault is_name_token bs (Version n) → text ≡ codes "error line " ++ decimal n ++ codes " version\n" → IsVerdict is_name_token bs text 16
version_text bs text n t h = fault_text bs text (Version n) t h
