-- When the reader refuses, and what it takes: the table's "given exactly when", and "a refused read takes 0 bytes". Assumes nothing.
use Prim.Native.Nat.{ℕ, ◌<◌}
use mathlib.Core.Path.{◌≡◌, ap, ◌∙◌}
use mathlib.Core.Bool.{true}
use mathlib.Core.Logic.{◌↔◌}
use mathlib.Core.List.{List}
use native.Mathlib.Omega.{arith}
use borrow.Author.Tests.{eqb-true, eqb-false}
use lib.Dec.{eqb}
use Rattle.std.specs.Prelude.{Result}
use Rattle.calls.specs.declared.Record.{Record}
use Rattle.calls.specs.declared.ReadError.{ReadError}
use lib.ListN.{length}
use Rattle.lists.proofs.ListLaws.{by_bool}
use Rattle.calls.specs.Reading.{faulty, read_of, refusal_of, count_of, refusal_for, count_for}

-- the answer's numbers are those that the bytes call for
pub refusal_is : (s : List ℕ) → refusal_of (read_of s) ≡ refusal_for s
unfolding read_of refusal_for
refusal_is s = by_bool (eqb (length s) 0) (λ e. simp e) (λ e. by_bool (faulty s) (λ f. simp (e, f)) (λ f. simp (e, f)))

pub count_is : (s : List ℕ) → count_of (read_of s) ≡ count_for s
unfolding read_of refusal_for count_for
count_is s = by_bool (eqb (length s) 0) (λ e. simp e) (λ e. by_bool (faulty s) (λ f. simp (e, f)) (λ f. simp (e, f)))

-- BAD_RECORD exactly when bytes are left and the record has one of the six faults
pub bad_record_exactly : (s : List ℕ) → (refusal_of (read_of s) ≡ 11) ↔ ((0 < length s) × (faulty s ≡ true))
unfolding read_of
bad_record_exactly s =
    by_bool (eqb (length s) 0)
    (λ e. ((λ r. absurd (omega (arith, simp e at r))), (λ h. absurd (omega (arith, eqb-true (length s) 0 e, h.0)))))
    (λ e. by_bool (faulty s)
    (λ f. ((λ r. (omega (arith, eqb-false (length s) 0 e), f)), (λ h. simp (e, f))))
    (λ f. ((λ r. absurd (omega (arith, simp (e, f) at r))), (λ h. let z : ◌≡◌ {A = ℕ} 0 1 = cc in absurd (omega arith)))))

-- END_OF_LOG exactly when no bytes are left
pub end_of_log_exactly : (s : List ℕ) → (refusal_of (read_of s) ≡ 12) ↔ (length s ≡ 0)
unfolding read_of
end_of_log_exactly s =
    by_bool (eqb (length s) 0)
    (λ e. ((λ r. eqb-true (length s) 0 e), (λ h. simp e)))
    (λ e. ((λ r. by_bool (faulty s) (λ f. absurd (omega (arith, simp (e, f) at r))) (λ f. absurd (omega (arith, simp (e, f) at r)))), (λ h. absurd (eqb-false (length s) 0 e h))))

-- what the contract says of an answer, for the answer that is right
pub answers : (s : List ℕ) (r : Result Record ReadError) → r ≡ read_of s
    → (r ≡ read_of s) × ((refusal_of r ≡ refusal_for s) × (count_of r ≡ count_for s))
answers s r e = (e, (ap refusal_of e ∙ refusal_is s, ap count_of e ∙ count_is s))
