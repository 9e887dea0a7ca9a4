-- The contracts of the public functions fix the answer and every place of both tables: what two results that satisfy the same contract say is that they are the same.
-- Those over lent tables assume `Logic`.
use Rattle.std.proofs.Common.{◌≡◌, [], ◌∷◌, sym, ◌∙◌}
use seplogic.Ra.Ura.{Ura}
use base.Logic.{SProp, ent, sep}
use prog.Memory.{Memory}
use prog.Routine.{Routine}
use types.Logic.{Logic}
use contract.Lifetimes.{Lfts}
use contract.Monad.{Fun, fact, fact_i}
use types.Kit.{raw, ◌∵◌, !, qed, by}
use denote.Steps.{heard}
use denote.Triple.Clauses.{AtExit}
use denote.Triple.Entry.{Args}
use Rattle.workspace.specs.declared.Answer.{Answer}
use Rattle.workspace.specs.contracts.fresh as fresh
use Rattle.workspace.specs.contracts.request as request
use Rattle.workspace.specs.contracts.release as release
use Rattle.workspace.proofs.owned.fresh.Reads as owned_fresh
use Rattle.workspace.proofs.owned.request.Reads as owned_request
use Rattle.workspace.proofs.owned.release.Reads as owned_release

module _ {M : Type 1} {𝓤 : Ura M} (𝓛 : Logic 𝓤) (mem : Memory → SProp 𝓤) (run : Routine → Fun 𝓤) where
  two_facts : (P Q R : Type 0) → (P → Q → R) → ent 𝓤 (sep 𝓤 (fact 𝓤 P) (fact 𝓤 Q)) (fact 𝓤 R)
  two_facts P Q R k = qed 𝓛 (raw (fact 𝓤 P) ∷ raw (fact 𝓤 Q) ∷ []) ∵ heard ! P (λ p. heard ! Q (λ q. by ! (fact_i 𝓤 R _ (k p q))))

  pub fresh_once : (κs : Lfts 2) (a : Args fresh.signature κs) (r r' : Answer) (y y' : AtExit fresh.ended κs)
      → ent 𝓤 (sep 𝓤 ((fresh.clauses 𝓛 mem run κs a).ensures tt r y) ((fresh.clauses 𝓛 mem run κs a).ensures tt r' y')) (fact 𝓤 ((r ≡ r') × (y.0.now ≡ y'.0.now) × (y.1.0.now ≡ y'.1.0.now)))
  fresh_once κs a r r' y y' = two_facts _ _ _ (λ p q. (p.0 ∙ sym q.0, p.1 ∙ sym q.1, p.2 ∙ sym q.2))

  pub request_once : (κs : Lfts 2) (a : Args request.signature κs) (r r' : Answer) (y y' : AtExit request.ended κs)
      → ent 𝓤 (sep 𝓤 ((request.clauses 𝓛 mem run κs a).ensures tt r y) ((request.clauses 𝓛 mem run κs a).ensures tt r' y')) (fact 𝓤 ((r ≡ r') × (y.0.now ≡ y'.0.now) × (y.1.0.now ≡ y'.1.0.now)))
  request_once κs a r r' y y' = two_facts _ _ _ (λ p q. (p.0 ∙ sym q.0, p.1 ∙ sym q.1, p.2 ∙ sym q.2))

  pub release_once : (κs : Lfts 2) (a : Args release.signature κs) (r r' : Answer) (y y' : AtExit release.ended κs)
      → ent 𝓤 (sep 𝓤 ((release.clauses 𝓛 mem run κs a).ensures tt r y) ((release.clauses 𝓛 mem run κs a).ensures tt r' y')) (fact 𝓤 ((r ≡ r') × (y.0.now ≡ y'.0.now) × (y.1.0.now ≡ y'.1.0.now)))
  release_once κs a r r' y y' = two_facts _ _ _ (λ p q. (p.0 ∙ sym q.0, p.1 ∙ sym q.1, p.2 ∙ sym q.2))

-- ── tables by value ──

pub owned_fresh_once : (κs : _) (x : _) (r r' : _) (y y' : _) → owned_fresh.Learnt κs x r y → owned_fresh.Learnt κs x r' y' → r ≡ r'
owned_fresh_once κs x r r' y y' p q = p ∙ sym q

pub owned_request_once : (κs : _) (x : _) (r r' : _) (y y' : _) → owned_request.Learnt κs x r y → owned_request.Learnt κs x r' y' → r ≡ r'
owned_request_once κs x r r' y y' p q = p ∙ sym q

pub owned_release_once : (κs : _) (x : _) (r r' : _) (y y' : _) → owned_release.Learnt κs x r y → owned_release.Learnt κs x r' y' → r ≡ r'
owned_release_once κs x r r' y y' p q = p ∙ sym q
