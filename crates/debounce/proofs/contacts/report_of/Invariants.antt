use Rattle.std.proofs.Common.{◌≡◌, ◌≤◌, List, length, take}
use Rattle.std.specs.Iterator.Adapters.{rev_source}
use Rattle.std.specs.Slice.Iter.{iter_rest}
use Rattle.debounce.specs.declared.Contact.{Contact}
use Rattle.debounce.proofs.CodeLaws.{report_at}
use Rattle.debounce.proofs.contacts.report_of.Given as goal

-- The invariant: the contacts that are left are the first of all, and what is found so far is the report of those behind them.
abbrev pub invariant-loop-c : goal.invariant-loop-c
invariant-loop-c l =
    let left : List Contact = iter_rest (rev_source l.c-iterator) in
    (length l.fn.cs ≡ 8) × (length left ≤ 8) × (left ≡ take (length left) l.fn.cs) × (l.r ≡ report_at l.fn.cs (length left))
