-- How the input is cut into pieces makes no difference; and a turn takes no more than it is given. Assumes nothing.
use Rattle.std.proofs.Common.{◌≡◌, ℕ, ◌≤◌, Bool, false, not, ◌&&◌, eqb, ltb, List, ◌++◌, length, refl, ◌∙◌, arith, length-append, ltb-false, le-ltb}
use mathlib.Core.Bool.{and-false}
use Rattle.lists.proofs.ListLaws.{by_bool}
use Rattle.calls.specs.Reading.{END_OF_LOG, read_of, number_of}
use Rattle.calls.specs.declared.Record.{Record}
use Rattle.calls.specs.declared.ReadError.{ReadError}
use Rattle.std.specs.Prelude.{Result, Ok, Err}
use Rattle.calls.proofs.Round.{accepted_as}
use Rattle.calls.proofs.Behind.{accepted_ahead, ten_ahead}
use Rattle.session.specs.Engines.{Rules}
use Rattle.session.specs.Turn.{turn_of, turn_by, took, leaves}
use Rattle.session.specs.declared.turns.Session.{Session}
use Rattle.session.specs.declared.turns.Next.TheVariants.{More}

module _ {E : Type 0} (g : Rules E) (s : Session E) (room : List ℕ) where
  -- where nothing is taken, and no more bytes are asked for, ten bytes are there
  ten_there : (n many : ℕ) → ((leaves g s n many false room).next ≡ More → ⊥) → 10 ≤ many
  unfolding leaves
  ten_there n many h = by_bool (ltb many 10) (λ e. absurd (h (simp e))) (λ e. ltb-false many 10 e)

  -- and then their number, and whether more come, make no difference
  leaves_ahead : (n many more : ℕ) (last : Bool) → 10 ≤ many → many ≤ more → leaves g s n more last room ≡ leaves g s n many false room
  unfolding leaves
  leaves_ahead n many more last h l = simp (le-ltb many 10 h, le-ltb more 10 (omega arith), and-false)

  module _ (input rest : List ℕ) (last : Bool) where
    -- a turn that asks for no more bytes, by what it has read
    settled_by : (r : Result Record ReadError) → read_of input ≡ r → ((turn_by g s r (length input) false room).next ≡ More → ⊥)
        → turn_by g s (read_of (input ++ rest)) (length (input ++ rest)) last room ≡ turn_by g s r (length input) false room
    settled_by (Ok r) e h = rw (accepted_ahead input rest r.call r.count e)
    settled_by (Err error) e h =
        let n = number_of error in
        let t = ten_there n (length input) h in
        rw (ten_ahead input rest t ∙ e) (leaves_ahead n (length input) (length (input ++ rest)) last t (omega (arith, length-append input rest)))

    -- is the same whatever bytes come behind, and whether any do
    pub settled : ((turn_of g s input false room).next ≡ More → ⊥) → turn_of g s (input ++ rest) last room ≡ turn_of g s input false room
    settled h = settled_by (read_of input) refl h

  -- ---- what a turn takes

  -- without a record nothing
  leaves_none : (n many : ℕ) (last : Bool) → (leaves g s n many last room).count ≡ 0
  unfolding leaves
  leaves_none n many last =
      by_bool (not last && ltb many 10) (λ e. simp e) (λ e. by_bool (eqb n END_OF_LOG) (λ f. simp (e, f)) (λ f. simp (e, f)))

  module _ (input : List ℕ) (last : Bool) where
    within_by : (r : Result Record ReadError) → read_of input ≡ r → (turn_by g s r (length input) last room).count ≤ length input
    unfolding took
    within_by (Ok r) e = let a = accepted_as input r.call r.count e in let f = a.frame.fits in omega (arith, a.count)
    within_by (Err error) e = omega (arith, leaves_none (number_of error) (length input) last)

    -- no more bytes than it is given
    pub turn_within : (turn_of g s input last room).count ≤ length input
    turn_within = within_by (read_of input) refl
