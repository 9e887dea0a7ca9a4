-- Places in the last arm of a match, which takes all that have none of their own: what is told there is that the place's number is
-- one of a list.
-- Assumes nothing.
use Rattle.std.proofs.Common.{◌≡◌, ℕ, List}
use denote.Enum.Declared.{tag_of}
use types.Run.{OneOf, miss}
use mir.Val.{has_key}
use Rattle.lists.specs.Lists.{when◌then◌else◌}
use Rattle.lists.proofs.ListLaws.{by_bool}
use Rattle.rules.specs.contracts.Place.{the_type}
use Rattle.rules.specs.declared.Waiting.{Waiting}
use Rattle.rules.specs.declared.Meeting.{Meeting}
use Rattle.rules.specs.declared.Offer.{Offer}
use Rattle.rules.specs.declared.Place.{Place}
use Rattle.rules.specs.declared.Place.TheVariants.{Blank, Ready, Delayed, Queued, Held, Accepting, Completed}

-- the place is one of those with these numbers
abbrev pub Among : List ℕ → Place → Type 0
Among ks p = OneOf ks (tag_of the_type p)

-- what is asked of a place: nothing where its number is none of the list
abbrev Asked : List ℕ → ℕ → Type 0 → Type 0
Asked ks n G = when has_key ks n then G else Unit {0}

asked : (ks : List ℕ) (n : ℕ) (G : Type 0) → Asked ks n G → OneOf ks n → G
asked ks n G a k = by_bool (has_key ks n) (λ e. rw e at a) (λ e. absurd (miss ks n (rw e tt) k))

-- what the places of the list have in common, a place that is one of them has
pub in_arm : {A : Type 0} (f : Place → A) (x : A) (ks : List ℕ) → Asked ks 0 (x ≡ f Blank) → Asked ks 1 (x ≡ f Ready) → Asked ks 2 (x ≡ f Delayed)
    → Asked ks 3 ((q : Waiting) → x ≡ f (Queued q)) → Asked ks 4 ((m : Meeting) → x ≡ f (Held m)) → Asked ks 5 ((o : Offer) → x ≡ f (Accepting o)) → Asked ks 6 (x ≡ f Completed)
    → (p : Place) → Among ks p → x ≡ f p
in_arm f x ks b r d q h a c Blank k = asked ks 0 (x ≡ f Blank) b k
in_arm f x ks b r d q h a c Ready k = asked ks 1 (x ≡ f Ready) r k
in_arm f x ks b r d q h a c Delayed k = asked ks 2 (x ≡ f Delayed) d k
in_arm f x ks b r d q h a c (Queued w) k = asked ks 3 ((q : Waiting) → x ≡ f (Queued q)) q k w
in_arm f x ks b r d q h a c (Held m) k = asked ks 4 ((m : Meeting) → x ≡ f (Held m)) h k m
in_arm f x ks b r d q h a c (Accepting o) k = asked ks 5 ((o : Offer) → x ≡ f (Accepting o)) a k o
in_arm f x ks b r d q h a c Completed k = asked ks 6 (x ≡ f Completed) c k
