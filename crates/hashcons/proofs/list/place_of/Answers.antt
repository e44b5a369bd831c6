use Rattle.std.proofs.Common.{sym, subst, ◌∙◌}
use Rattle.std.proofs.lemmas.Option.{same_Some, none-some}
use Rattle.hashcons.specs.Listing.{IsFirstPlace}
use Rattle.hashcons.proofs.ListingPlaces.{found_at}
use Rattle.hashcons.proofs.list.place_of.Goals as goal

pub unreachable-requires : goal.unreachable-requires
unreachable-requires c =
    let f = found_at c.args.order.now.keys c.args.id c.get_index_of.result c.requires c.get_index_of.ensures.index in
    none-some f.place (sym c.in-None.is ∙ f.is)

pub returns : goal.returns
returns c =
    let f = found_at c.args.order.now.keys c.args.id c.get_index_of.result c.requires c.get_index_of.ensures.index in
    subst (IsFirstPlace c.args.order.now.keys c.args.id) (same_Some f.place c.in-Some.place (sym f.is ∙ c.in-Some.is)) f.first
