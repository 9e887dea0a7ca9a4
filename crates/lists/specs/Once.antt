-- What is said of a contract, as Rattle reads it off the source: when it asks nothing, and when it determines the answer. `Asked` is what a caller must
-- show of the arguments, `Learnt` what it learns of the answer and of what the call leaves, for any lifetimes.
use Rattle.std.specs.Prelude.{◌≡◌}

-- nothing is asked of who calls: every input is taken
abbrev pub AsksNothing : {K : Type 0} {X : K → Type 0} → ((κs : K) → X κs → Type 0) → Type 0
AsksNothing Asked = (κs : _) (x : _) → Asked κs x

-- any two answers that a contract allows for the same arguments are equal
abbrev pub Once : {K : Type 0} {X R Y : K → Type 0} → ((κs : K) → X κs → R κs → Y κs → Type 0) → Type 0
Once Learnt = (κs : _) (x : _) (r r' : _) (y y' : _) → Learnt κs x r y → Learnt κs x r' y' → r ≡ r'
