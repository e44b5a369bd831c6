use Rattle.std.proofs.Common.{◌≡◌, true, slice_get, Some}
use Rattle.hashcons.specs.declared.tables.ArrowEntry.{ArrowEntry}
use Rattle.block_lists.proofs.Distinct.{put_is}
use Rattle.hashcons.proofs.Entries.{arrow_entry_eq, arrow_entries_decide}
use Rattle.hashcons.proofs.tables.put_arrow_entry.Goals as goal

pub returns-clause-put : goal.returns-clause-put
returns-clause-put c =
    let e = c.in_ok-entry.entry in
    let i = c.in_ok-index.index in
    let now = c.insert_full.new.self.keys in
    let s : (k : ArrowEntry) × (slice_get now i ≡ Some k) × (arrow_entry_eq e k ≡ true) = c.in_ok-index.ensures.stored in
    record {
      entry = e;
      shows = c.in_ok-entry.ensures.shows;
      put = put_is arrow_entry_eq arrow_entries_decide c.args.arrows.now.keys now e i s.0 c.in_ok-index.ensures.keys s.1 s.2;
    }
