use Rattle.std.proofs.Common.{◌≡◌, ◌≤◌, ◌-◌, [], List, length, take, vec_len}
use Rattle.std.specs.List.{flat_map}
use Rattle.just_names.specs.Texts.{texts}
use Rattle.just_tail.specs.Pieces.{Piece, words_of}
use Rattle.just_tail.specs.Steps.{steps_of_piece, PiecesFollow}
use Rattle.just_tail.specs.loops.Reader.{HasRead}
use Rattle.just_tail.proofs.tail.read_tail.Given as goal

abbrev pub invariant-loop-taken : goal.invariant-loop-taken
invariant-loop-taken l = record {
  within : l.taken ≤ length l.words;
  count : vec_len l.progress.groups ≡ length l.parameters;
  room : l.progress.placed ≤ l.taken;
  front : (pieces : List Piece) × (texts (take l.taken l.words) ≡ flat_map words_of pieces)
      × PiecesFollow l.parameters [] pieces × HasRead l.parameters (flat_map steps_of_piece pieces) l.progress;
}

abbrev pub decreases-loop-taken : goal.decreases-loop-taken
decreases-loop-taken l = length l.words - l.taken
