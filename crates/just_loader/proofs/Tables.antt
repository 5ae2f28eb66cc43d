-- Tables that are keyed.
use Rattle.std.proofs.Common.{◌≡◌, ℕ, List, Option, Some, None, IfSome, sym}
use Rattle.std.specs.Borrow.{Bor}
use Rattle.std.specs.Option.{option_copied}
use Rattle.std.proofs.lemmas.List.Elements.{All-contains}
use Rattle.std.proofs.lemmas.Map.Views.{Contains-from_lookup}
use Rattle.std.proofs.lemmas.Slice.Eq.{bytes_eq-Decides}
use Rattle.just_table.specs.Entries.{find, IsKeyed}
use Rattle.just_loader.specs.Sources.{Files}
use Rattle.just_loader.specs.declared.sources.SourceFile.{SourceFile}

-- what a keyed table has at a key has that key
pub keyed_found : {V : Type 0} (key_of : V → List ℕ) (es : List (List ℕ × V)) (k : List ℕ) (v : V) → IsKeyed key_of es → find k es ≡ Some v → key_of v ≡ k
keyed_found {V} key_of es k v keyed e = All-contains (λ (x : List ℕ × V). key_of x.1 ≡ x.0) es (k, v) keyed (Contains-from_lookup (λ a b. (bytes_eq-Decides a b).0) k v es e)

-- a file that is found has the path by which it is found
pub some_keyed : (o : Option (Bor SourceFile)) (files : Files) (path : List ℕ) → IsKeyed (λ (f : SourceFile). f.path) files → option_copied o ≡ find path files → IfSome o (λ f. f.now.path ≡ path)
some_keyed None files path keyed e = tt
some_keyed (Some f) files path keyed e = keyed_found (λ (x : SourceFile). x.path) files path f.now keyed (sym e)
