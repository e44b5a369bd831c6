use Rattle.std.proofs.Common.{◌∙◌, sym, ap, subst, arith}
use Rattle.io_edge.specs.Lines.{ReaderState}
use Rattle.io_edge.proofs.Readers.{JoinsPiece, GetsMore, joins_piece, piece_joined, none_pending, passed-behind, length-joined, piece_taken, takes_line, takes_last, gives_up, none_taken, no_newline_taken, no_line_joined}
use Rattle.io_edge.proofs.LineEnds.{end_is_length, extent_is_all}
use Rattle.io_edge.proofs.lines.LineReader.take_line.Goals as goal

pub returns-in-Ok-true-clause-takes : goal.returns-in-Ok-true-clause-takes
returns-in-Ok-true-clause-takes g c =
    let e = c.in-Ok-true.ensures in
    takes_line c.args.self.now c.pieces.self c.move_piece.new.self _ _ c.pieces.line.items c.move_piece.new.line
    (sym c.in-Ok-true.field-0-test ∙ e.newline) e.state e.line e.short e.within c.pieces.invariant.mid

pub returns-in-Err-clause-takes : goal.returns-in-Err-clause-takes
returns-in-Err-clause-takes g c =
    gives_up c.args.self.now c.pieces.self c.move_piece.new.self _ _ c.pieces.line.items c.in-Err.fault
    (λ e. c.in-Err.ensures.too_long (cc e)) c.pieces.invariant.mid

pub pieces-preserved : goal.pieces-preserved
pieces-preserved g c =
    let now = c.pieces.self in
    let behind = c.move_piece.new.self in
    let new = c.fill.new.self in
    let line = c.pieces.line.items in
    let line' = c.move_piece.new.line.items in
    let moved = c.in-Ok-false.ensures in
    let filled = c.in-Ok-true-fill.ensures in
    let joins : JoinsPiece now behind line line' =
    joins_piece now behind line line' _ c.in-Ok-false.field-0-test moved.newline moved.state moved.line in
    let gets : GetsMore behind new (g.S.Source.left c.pieces.source) (g.S.Source.left c.fill.new.source) c.in-Ok-true-fill.field-0 = record {
      none_pending = none_pending now behind line line' joins;
      some = filled.more;
      state = filled.state;
      consumed = filled.bytes;
      ended = λ e. (filled.ended e).0;
    } in
    let mid = piece_joined now behind line line' joins c.args.self.now _ _ c.pieces.invariant.mid in
    record {
      mid =
          piece_taken c.args.self.now behind new _ _ _ line'
          (subst (GetsMore behind new _ _) c.in-Ok-true-fill.field-0-test gets) mid;
      short = omega (arith, length-joined now behind line line' joins, moved.short, end_is_length now.pending joins.no_newline);
      unread = λ e. (filled.ended (mid.ended ∙ e)).1 ∙ c.pieces.invariant.unread e;
      waits = λ e. absurd (no_line_joined c.args.self.now now behind _ _ line line' joins moved.short moved.within c.pieces.invariant.mid e);
      told = filled.told ∙ c.pieces.invariant.told;
      later = omega (arith, filled.later, c.pieces.invariant.later);
    }

pub returns-in-Ok-false-fill-clause-takes : goal.returns-in-Ok-false-fill-clause-takes
returns-in-Ok-false-fill-clause-takes g c =
    let now = c.pieces.self in
    let behind = c.move_piece.new.self in
    let new = c.fill.new.self in
    let line = c.pieces.line.items in
    let line' = c.move_piece.new.line.items in
    let moved = c.in-Ok-false.ensures in
    let filled = c.in-Ok-false-fill.ensures in
    let joins : JoinsPiece now behind line line' =
    joins_piece now behind line line' _ c.in-Ok-false.field-0-test moved.newline moved.state moved.line in
    let gets : GetsMore behind new (g.S.Source.left c.pieces.source) (g.S.Source.left c.fill.new.source) c.in-Ok-false-fill.field-0 = record {
      none_pending = none_pending now behind line line' joins;
      some = filled.more;
      state = filled.state;
      consumed = filled.bytes;
      ended = λ e. (filled.ended e).0;
    } in
    takes_last c.args.self.now behind new _ _ _ line' c.unless_empty.result
    (subst (GetsMore behind new _ _) c.in-Ok-false-fill.field-0-test gets)
    (filled.at_end c.in-Ok-false-fill.field-0-test)
    (omega (arith, length-joined now behind line line' joins, moved.short, end_is_length now.pending joins.no_newline))
    (omega (arith, passed-behind now behind line line' joins, moved.within, extent_is_all now.pending joins.no_newline))
    c.unless_empty.ensures.some c.unless_empty.ensures.none
    (piece_joined now behind line line' joins c.args.self.now _ _ c.pieces.invariant.mid)

-- ---- the source failed, or there was no memory

pub returns-in-Err-fill-clause-takes : goal.returns-in-Err-fill-clause-takes
returns-in-Err-fill-clause-takes g c =
    let now = c.pieces.self in
    let behind = c.move_piece.new.self in
    let new = c.fill.new.self in
    let line = c.pieces.line.items in
    let line' = c.move_piece.new.line.items in
    let moved = c.in-Ok-false.ensures in
    let filled = c.in-Err-fill.ensures in
    let joins : JoinsPiece now behind line line' =
    joins_piece now behind line line' _ c.in-Ok-false.field-0-test moved.newline moved.state moved.line in
    let mid = piece_joined now behind line line' joins c.args.self.now _ _ c.pieces.invariant.mid in
    gives_up c.args.self.now new new _ _ line' c.in-Err-fill.fault (λ e. absurd (filled.memory (cc e)))
    (none_taken c.args.self.now behind _ _ line' (none_pending now behind line line' joins) mid new _ filled.err filled.bytes)

pub returns-in-Err-fill-clause-no_line : goal.returns-in-Err-fill-clause-no_line
returns-in-Err-fill-clause-no_line g c e =
    let now = c.pieces.self in
    let behind = c.move_piece.new.self in
    let new = c.fill.new.self in
    let line = c.pieces.line.items in
    let line' = c.move_piece.new.line.items in
    let moved = c.in-Ok-false.ensures in
    let filled = c.in-Err-fill.ensures in
    let joins : JoinsPiece now behind line line' =
    joins_piece now behind line line' _ c.in-Ok-false.field-0-test moved.newline moved.state moved.line in
    let none = none_pending now behind line line' joins in
    let mid = piece_joined now behind line line' joins c.args.self.now _ _ c.pieces.invariant.mid in
    no_newline_taken c.args.self.now new _ _ line' (ap (λ (s : ReaderState). s.pending) filled.err ∙ none)
    (none_taken c.args.self.now behind _ _ line' none mid new _ filled.err filled.bytes)
    (omega (arith, length-joined now behind line line' joins, moved.short, end_is_length now.pending joins.no_newline))
    (omega (arith, ap (λ (s : ReaderState). s.passed) filled.err, passed-behind now behind line line' joins, moved.within, extent_is_all now.pending joins.no_newline))

-- ---- nothing was read while a line was there

pub returns-in-Ok-false-fill-clause-waits : goal.returns-in-Ok-false-fill-clause-waits
returns-in-Ok-false-fill-clause-waits g c e =
    let now = c.pieces.self in
    let behind = c.move_piece.new.self in
    let line = c.pieces.line.items in
    let line' = c.move_piece.new.line.items in
    let moved = c.in-Ok-false.ensures in
    let joins : JoinsPiece now behind line line' =
    joins_piece now behind line line' _ c.in-Ok-false.field-0-test moved.newline moved.state moved.line in
    absurd (no_line_joined c.args.self.now now behind _ _ line line' joins moved.short moved.within c.pieces.invariant.mid e)

pub returns-in-Err-fill-clause-waits : goal.returns-in-Err-fill-clause-waits
returns-in-Err-fill-clause-waits g c e =
    let now = c.pieces.self in
    let behind = c.move_piece.new.self in
    let line = c.pieces.line.items in
    let line' = c.move_piece.new.line.items in
    let moved = c.in-Ok-false.ensures in
    let joins : JoinsPiece now behind line line' =
    joins_piece now behind line line' _ c.in-Ok-false.field-0-test moved.newline moved.state moved.line in
    absurd (no_line_joined c.args.self.now now behind _ _ line line' joins moved.short moved.within c.pieces.invariant.mid e)
