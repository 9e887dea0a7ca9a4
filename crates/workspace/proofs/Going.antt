-- A walk by hand of a function that goes over a table that is lent as `&[Stretch]`, place by place. No proof of this crate walks by hand today.
--     Locals, Going, Waiting     its locals, and what is held of them inside a turn and between two turns
--     visits       a turn begins: at the end of the table the loop is left; before it, what stands at place i is read, or a part of it. The turn looks into the slice and shuts it again,
--                  so that it goes on with the token and the borrow
--     leaves       behind the loop: the result is stored, and all locals are freed
-- Assumes `Logic`.
use types.Logic.{Logic}
use denote.Slice.{shr_slice_at, elements_shared}
use mathlib.Core.Path.{refl, sym}
use Prim.Native.Nat.{ℕ, ◌*◌, ◌<◌, ◌≤◌}
use mathlib.Core.List.{List, [], ◌∷◌}
use lib.ListN.{length, get_or}
use lib.Dec.{T, ltb, ltb→lt, nltb→le}
use seplogic.Ra.Ura.{Ura}
use base.Fraction.{full_share}
use mir.Syntax.{Ty, Body, named, imm, w64, ty_int, ty_bool, ty_ptr, ty_ref, assign, cond, exit, return, seq}
use mir.Val.{Val, vbool, vint, vptr}
use base.Logic.{SProp, ent}
use base.Fml.{fhide, Lft, Share, fat, froom, fdies, flft}
use prog.Wp.{Heap, Env, Calls, Loops}
use types.Kit.{Item, ‵, ⋆, runs, at_ret, ◌$◌, by, move, rewrite, fjoin}
use types.Part.{whole, sub, look_in}
use types.Run.{look, init, store, forget, stop, hop, fld, from, load, lit, of_opd, bin, assigns, first, skips, jumps, branches, returns, free1, free0, exec}
use denote.Laws.{Is, shows}
use denote.Memory.{pointee}
use denote.Slice.{slice_ty, slice_val, ShrSlice, Room}
use denote.Index.{place_is, elem_out, elem_back, looks_slice, shuts_slice}
use mir.Syntax.{Step as Way, deref, field, place, copy, int, Rv as RValue, rv_opd, op2, lt, mul, unsigned, offset, skip}
use mir.Val.{has_ty, WT}
use prog.Wp.{Spot, exits}
use types.Kit.{Seq, Post, post, prop}
use types.Run.{Reads, Walks, Rv}
use denote.Index.{place as lies}
use denote.Memory.{cell_at}
use denote.Struct.Laws as LL
use Rattle.workspace.specs.declared.Stretch.{Stretch}
use Rattle.workspace.specs.Rules.{none}
use Rattle.workspace.proofs.Walks.{lets_go, tail, scaled}
use Rattle.workspace.specs.contracts.Stretch as T
use Rattle.workspace.proofs.Stretch.TheLaws as T'

abbrev pub word : Ty
word = ty_int w64

abbrev pub slice : Ty
slice = slice_ty (ty_ref (named 0) imm (pointee (T.the_row).written))

-- a turn, up to where `table[i]` is read, or what the steps st lead to
abbrev turn : List Way → Body → Body
turn st rest =
    seq (assign (place 4 []) (rv_opd (copy (place 1 (field 1 ∷ []))))) (seq (assign (place 5 []) (op2 (lt unsigned) (copy (place 3 [])) (copy (place 4 [])))) (seq (cond (copy (place 5 [])) skip (exit 1))
    (seq (assign (place 4 []) (op2 (mul unsigned) (copy (place 3 [])) (int w64 8))) (seq (assign (place 6 []) (op2 offset (copy (place 1 (field 0 ∷ []))) (copy (place 4 []))))
    (seq (assign (place 7 []) (rv_opd (copy (place 6 (deref T'.mir ∷ st))))) rest)))))

-- the machine value of what stands at place i
abbrev pub vals_at : List Stretch → ℕ → List Val
vals_at ys i = LL.vals T.the_type T'.the_laws (get_or ys i none)

module _ {M : Type 1} (𝓤 : Ura M) (H : Heap 𝓤) (τ₀ τ₂ τ₇ : Ty) (l₀ l₁ l₂ l₃ l₄ l₅ l₆ l₇ : ℕ) where
  -- the result, the table, one that only the function itself uses, i, a number, the test, where `table[i]` lies, and what is read there
  abbrev pub Locals : Env 𝓤 H
  Locals = (τ₀, l₀) ∷ (slice, l₁) ∷ (τ₂, l₂) ∷ (word, l₃) ∷ (word, l₄) ∷ (ty_bool, l₅) ∷ (ty_ptr, l₆) ∷ (τ₇, l₇) ∷ []

module _ {M : Type 1} (𝓤 : Ura M) (κ : Lft) (s : Share) (τ₀ τ₂ τ₇ : Ty) (l₀ l₁ l₂ l₃ l₄ l₅ l₆ l₇ : ℕ) (b o i : ℕ) (ys : List Stretch) (v : Val) where
  -- [the token; the borrow; _7; …; _6; …; _5; …; _4; …; _3; …; _2; …; _1; …; _0; …; table's fact], with v in _2
  abbrev pub Going : (i₇ i₆ i₅ i₄ : Item 𝓤) → List (Item 𝓤)
  Going i₇ i₆ i₅ i₄ = ‵ (flft κ s) ∷ ‵ (fhide (elements_shared T.the_row ys b o κ)) ∷ i₇ ∷ ‵ (fdies τ₇ l₇) ∷ i₆ ∷ ‵ (fdies ty_ptr l₆) ∷ i₅ ∷ ‵ (fdies ty_bool l₅) ∷ i₄ ∷ ‵ (fdies word l₄)
      ∷ ‵ (fat full_share word l₃ 0 (vint w64 i)) ∷ ‵ (fdies word l₃) ∷ ‵ (fat full_share τ₂ l₂ 0 v) ∷ ‵ (fdies τ₂ l₂) ∷ ‵ (fat full_share slice l₁ 0 (slice_val (b, o) (length ys))) ∷ ‵ (fdies slice l₁) ∷ ‵ (froom τ₀ l₀ 0) ∷ ‵ (fdies τ₀ l₀)
      ∷ ‵ (shr_slice_at T.the_row (record { ref_ptr = (b, o); now = ys }) (slice_val (b, o) (length ys) ∷ [])) ∷ []

  abbrev pub Waiting : List (Item 𝓤)
  Waiting = Going (‵ (froom τ₇ l₇ 0)) (‵ (froom ty_ptr l₆ 0)) (‵ (froom ty_bool l₅ 0)) (‵ (froom word l₄ 0))

  -- r is read at place i
  abbrev pub Reading : Val → List (Item 𝓤)
  Reading r = Going (‵ (fat full_share τ₇ l₇ 0 r)) (‵ (fat full_share ty_ptr l₆ 0 (vptr b (lies 8 o i)))) (‵ (fat full_share ty_bool l₅ 0 (vbool (ltb i (length ys))))) (‵ (fat full_share word l₄ 0 (vint w64 (i * 8))))

module _ {M : Type 1} {𝓤 : Ura M} {𝓛 : Logic 𝓤} {K : Type 0} {C : Calls 𝓤 𝓛.H} {Λ : Loops 𝓤 𝓛.H} {κ : Lft} {s : Share} {τ₀ τ₂ τ₇ : Ty} {l₀ l₁ l₂ l₃ l₄ l₅ l₆ l₇ b o i : ℕ} {v : Val} where
  -- r is what is read: `part` says where in a stretch it lies
  open 𝓛 use {H}

  pub visits : K → (ys : List Stretch) {q : Post 𝓤 H} {st : List Way} {rest : Body} → Room T.the_row (length ys) → (r : Val) → (Is T.the_row (get_or ys i none) (vals_at ys i) → T (has_ty τ₇ r) × WT r)
      → ((u : Share) (p : ℕ) (Γ : List (Item 𝓤)) → (sp : Spot 𝓤 H) × (Walks K 𝓛 (‵ (cell_at u (T.the_row).mir (vals_at ys i) b p) ∷ Γ) (Locals 𝓤 H τ₀ τ₂ τ₇ l₀ l₁ l₂ l₃ l₄ l₅ l₆ l₇) (T'.mir, b, p) st sp × Reads K 𝓛 (‵ (cell_at u (T.the_row).mir (vals_at ys i) b p) ∷ Γ) sp.0 sp.1 sp.2 r))
      → (i < length ys → Is T.the_row (get_or ys i none) (vals_at ys i) → Seq K 𝓛 (Reading 𝓤 κ s τ₀ τ₂ τ₇ l₀ l₁ l₂ l₃ l₄ l₅ l₆ l₇ b o i ys v r) (runs C Λ (Locals 𝓤 H τ₀ τ₂ τ₇ l₀ l₁ l₂ l₃ l₄ l₅ l₆ l₇) rest q))
      → (length ys ≤ i → Seq K 𝓛 (Waiting 𝓤 κ s τ₀ τ₂ τ₇ l₀ l₁ l₂ l₃ l₄ l₅ l₆ l₇ b o i ys v) (prop (post 𝓤 H q (exits 1))))
      → Seq K 𝓛 (Waiting 𝓤 κ s τ₀ τ₂ τ₇ l₀ l₁ l₂ l₃ l₄ l₅ l₆ l₇ b o i ys v) (runs C Λ (Locals 𝓤 H τ₀ τ₂ τ₇ l₀ l₁ l₂ l₃ l₄ l₅ l₆ l₇) (turn st rest) q)
  visits t ys {q} {st} {rest} room r typed part inside over =
      assigns t (of_opd t (load t (from t (fld t refl (stop t))) (look_in t 14 (sub t 1 refl (whole t))))) (from t (stop t)) (init t 8 refl (tt, record { fits = room.0 })) $
      assigns t (bin t (load t (from t (stop t)) (look t 10 refl)) (load t (from t (stop t)) (look t 8 refl)) tt) (from t (stop t)) (init t 6 refl (tt, tt)) $
      first t $ branches t (load t (from t (stop t)) (look t 6 refl))
      (λ z. let less : i < length ys = ltb→lt i (length ys) z in skips t $ exec t C Λ (Locals 𝓤 H τ₀ τ₂ τ₇ l₀ l₁ l₂ l₃ l₄ l₅ l₆ l₇) (tail (tail (tail (turn st rest)))) q $
      assigns t (bin t (load t (from t (stop t)) (look t 10 refl)) (lit t tt) (record { fits = scaled (length ys) i room.1 less })) (from t (stop t)) (store t 8 refl (tt, record { fits = scaled (length ys) i room.1 less })) $
      assigns t (bin t (load t (from t (fld t refl (stop t))) (look_in t 14 (sub t 0 refl (whole t)))) (load t (from t (stop t)) (look t 8 refl)) tt) (from t (stop t)) (init t 4 refl (tt, tt)) $
      rewrite t 4 (λ (p : ℕ). ‵ (fat full_share ty_ptr l₆ 0 (vptr b p))) (sym (place_is 8 o i)) refl $ move t (1 ∷ 0 ∷ []) $
      looks_slice t tt T.the_row (LL.copied T.the_type T'.the_copy 𝓛) ys b o (λ u.
      elem_out t T.the_row (Is T.the_row) (shows 𝓛 T.the_row) (LL.vals T.the_type T'.the_laws) (LL.tells T.the_type T'.the_laws) u ys i none b o less (λ g.
      -- [table[i]; what it owns; the others; what shuts; the borrow; _7; …]: each local three further
      assigns t (of_opd t (load t (from t (hop t (look t 7 refl) (part u (lies 8 o i) _).1.0)) (part u (lies 8 o i) _).1.1)) (from t (stop t)) (init t 5 refl (typed g)) $
      elem_back t T.the_row u ys i none (vals_at ys i) b o less $ shuts_slice t tt T.the_row u ys b o $ inside less g)))
      (λ z. jumps t $ forget t 6 refl $ forget t 8 refl $ over (nltb→le i (length ys) z))

  pub leaves : K → (ys : List Stretch) {Kf : Val → SProp 𝓤} {rv : RValue} {r : Val} → Rv K 𝓛 (Waiting 𝓤 κ s τ₀ τ₂ τ₇ l₀ l₁ l₂ l₃ l₄ l₅ l₆ l₇ b o i ys v) (Locals 𝓤 H τ₀ τ₂ τ₇ l₀ l₁ l₂ l₃ l₄ l₅ l₆ l₇) rv r → T (has_ty τ₀ r) × WT r
      → ent 𝓤 (⋆ 𝓛 (‵ (flft κ s) ∷ ‵ ((ShrSlice (named 0) κ T.the_row).own_val (record { ref_ptr = (b, o); now = ys }) (slice_val (b, o) (length ys) ∷ [])) ∷ [])) (Kf r)
      → Seq K 𝓛 (Waiting 𝓤 κ s τ₀ τ₂ τ₇ l₀ l₁ l₂ l₃ l₄ l₅ l₆ l₇ b o i ys v) (runs C Λ (Locals 𝓤 H τ₀ τ₂ τ₇ l₀ l₁ l₂ l₃ l₄ l₅ l₆ l₇) (seq (assign (place 0 []) rv) return) (at_ret (Locals 𝓤 H τ₀ τ₂ τ₇ l₀ l₁ l₂ l₃ l₄ l₅ l₆ l₇) Kf))
  leaves t ys value typed ends =
      assigns t value (from t (stop t)) (init t 16 refl typed) $
      returns t (look t 16 refl) $ lets_go t 16 refl refl $ lets_go t 14 refl refl $ lets_go t 12 refl refl $ lets_go t 10 refl refl $ move t (8 ∷ 9 ∷ []) $ free1 t $ move t (6 ∷ 7 ∷ []) $ free1 t $ move t (4 ∷ 5 ∷ []) $ free1 t $ move t (2 ∷ 3 ∷ []) $ free1 t $ free0 t $
      -- [the token; the borrow; table's fact]
      move t (2 ∷ 1 ∷ []) $ fjoin t $ move t (1 ∷ 0 ∷ []) $ by t ends
