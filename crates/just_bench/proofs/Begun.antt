-- What a writer has of a text.
use Rattle.std.proofs.Common.{◌≡◌, ◌+◌, ◌-◌, ℕ, List, [], ◌++◌, Option, take, drop, length, length-drop, sym, subst, ◌∙◌, ap, arith}
use Rattle.std.proofs.Math.Seq.{take-add}
use Rattle.std.proofs.lemmas.List.{append-nil, append_assoc, take-append-drop, take_all}
use Rattle.std.proofs.KnownBytes.{Appends-kept, Appends-trans}
use Rattle.std.specs.Io.KnownBytes.{Appends, Keeps}
use Rattle.just_bench.specs.Writing.{GetsBeginning}

module _ (old new : Option (List ℕ)) where
  -- all of it
  pub begun_whole : (bytes : List ℕ) → Appends old new bytes → GetsBeginning old new bytes
  begun_whole bytes h = record { begun = bytes; left = []; whole = sym (append-nil bytes); written = h }

  -- so many of its bytes
  pub begun_take : (n : ℕ) (bytes : List ℕ) → Appends old new (take n bytes) → GetsBeginning old new bytes
  begun_take n bytes h = record { begun = take n bytes; left = drop n bytes; whole = sym (take-append-drop n bytes); written = h }

  -- a beginning of it, before more
  pub begun_before : (bytes more : List ℕ) → GetsBeginning old new bytes → GetsBeginning old new (bytes ++ more)
  begun_before bytes more b = record {
    begun = b.begun;
    left = b.left ++ more;
    whole = ap (λ t. t ++ more) b.whole ∙ append_assoc b.begun b.left more;
    written = b.written;
  }

-- all of one, and then a beginning of another
pub begun_after : (old middle new : Option (List ℕ)) (bytes more : List ℕ) → Appends old middle bytes → GetsBeginning middle new more → GetsBeginning old new (bytes ++ more)
begun_after old middle new bytes more h b = record {
  begun = bytes ++ b.begun;
  left = b.left;
  whole = ap (λ t. bytes ++ t) b.whole ∙ sym (append_assoc bytes b.begun b.left);
  written = Appends-trans old middle new bytes b.begun h b.written;
}

-- nothing more is written
pub begun_kept : (old middle new : Option (List ℕ)) (bytes : List ℕ) → GetsBeginning old middle bytes → Keeps middle new → GetsBeginning old new bytes
begun_kept old middle new bytes b k = record { begun = b.begun; left = b.left; whole = b.whole; written = Appends-kept old middle new b.begun b.written k }

-- a write takes some more of the bytes
pub taken_more : (old middle new : Option (List ℕ)) (bytes : List ℕ) (at n : ℕ) →
    Appends old middle (take at bytes) → Appends middle new (take n (take (length bytes - at) (drop at bytes))) → Appends old new (take (at + n) bytes)
taken_more old middle new bytes at n h k =
    let rest : take (length bytes - at) (drop at bytes) ≡ drop at bytes = take_all (length bytes - at) (drop at bytes) (grind (arith, length-drop)) in
    subst (Appends old new) (ap (λ t. take at bytes ++ take n t) rest ∙ sym (take-add at n bytes)) (Appends-trans old middle new (take at bytes) (take n (take (length bytes - at) (drop at bytes))) h k)
