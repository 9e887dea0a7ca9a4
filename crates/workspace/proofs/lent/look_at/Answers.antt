use Rattle.std.proofs.Common.{◌≡◌, ◌∙◌, ◌&&◌, length, leb}
use Rattle.std.specs.Option.{unwrap_or}
use Rattle.workspace.specs.Places.{has_units}
use Rattle.workspace.specs.Seen.{look_of}
use Rattle.workspace.proofs.PlaceLaws.{place_or_len}
use Rattle.workspace.proofs.lent.look_at.Goals as goal

pub returns : goal.returns
unfolding look_of
returns c =
    let b = c.args.blocks.now in
    let f = c.args.free.now in
    let p : c.unwrap_or.result ≡ _ = c.unwrap_or.ensures ∙ (λ i. unwrap_or (c.first_fit.ensures i) (length f)) ∙ place_or_len (has_units c.args.size) f in
    λ i. record {
      blocks = (c.loaded-b.ensures i).places;
      free = (c.loaded-f.ensures i).places;
      long = leb 31 (length b) && leb 32 (length f);
      clear = (c.loaded-b.ensures i).clear && (c.loaded-f.ensures i).clear;
      place = p i;
    }
