-- The folders of files, as they are held.
use Rattle.std.proofs.Common.{◌≡◌, ◌≢◌, ℕ, zero, suc, ◌+◌, ◌-◌, take, take_at, length-append, MatchOption, Result, Ok, Err, OnOk, OnErr, ◌<◌, not, Bool, true, false, cond, List, [], ◌∷◌, ◌++◌, append_assoc, append-nil, map, length, get_or, refl, sym, ap, ◌∙◌, subst, arith, Option, None, Some, is_some, codes, ◌||◌, if◌then◌else◌, true≢false}
use Rattle.std.specs.Prelude.{unwrap_or}
use Rattle.std.specs.Borrow.{Bor}
use Rattle.std.specs.Char.{to_ascii_lowercase}
use Rattle.std.specs.Ordering.{nat_cmp, match_ordering, is_le}
use Rattle.std.specs.declared.cmp.Ordering.{Ordering}
use Rattle.std.specs.declared.cmp.Ordering.TheVariants.{Less, Equal, Greater}
use Rattle.std.specs.Cmp.Lexicographic.{slice_cmp}
use Rattle.std.specs.List.{filter, before_last, list_all}
use Rattle.std.specs.Map.{keys_of}
use Rattle.std.specs.Str.{bytes_eq, str_eq_ignore_ascii_case}
use Rattle.std.proofs.lemmas.Bool.{cond-true, cond-false, and_parts, false≢true}
use Rattle.std.proofs.lemmas.Slice.Eq.{bytes_eq-Decides}
use Rattle.std.proofs.lemmas.Map.Lookups.{exact_bytes}
use Rattle.std.specs.Str.Pattern.{FindsTextSuffix}
use Rattle.std.proofs.lemmas.List.Elements.{All-head, All-tail, All-weaker}
use Rattle.std.proofs.lemmas.List.{length_push}
use Rattle.just_paths.specs.Clean.{is_slash}
use Rattle.just_table.specs.Entries.{find, put, IsSorted}
use Rattle.just_paths.proofs.Slashes.{LacksSlash, before_slash}
use Rattle.just_loader.specs.ModuleFile.{after, slashed, is_module_name, is_named_so, is_module_file}
use Rattle.just_loader.specs.Sources.{folder_prefix, HoldsFolders, Files}
use Rattle.just_loader.specs.declared.sources.SourceFile.{SourceFile}
use Rattle.just_loader.proofs.Paths.{all_put}
use Rattle.just_loader.proofs.Passed.{AreFrom, after_is, none_selected, not_before, sorted_head, sorted_tail}

-- ---- what is found after a change
module _ {V : Type 0} where
  found_here : (k q : List ℕ) (w : V) (es : List (List ℕ × V)) → k ≡ q → is_some (find k ((q, w) ∷ es)) ≡ true
  found_here k q w es e = ap (λ b. is_some (cond b (Some w) (find k es))) ((bytes_eq-Decides k q).1 e)

  found_by : (b : Bool) (v w : V) (o p : Option V) → is_some (cond b (Some v) o) ≡ true → (is_some o ≡ true → is_some p ≡ true) → is_some (cond b (Some w) p) ≡ true
  found_by true v w o p h f = refl
  found_by false v w o p h f = f h

  found_more : (k q : List ℕ) (w : V) (es : List (List ℕ × V)) → is_some (find k es) ≡ true → is_some (find k ((q, w) ∷ es)) ≡ true
  found_more k q w es h = go (bytes_eq k q)
    where
      go : (b : Bool) → is_some (cond b (Some w) (find k es)) ≡ true
      go true = refl
      go false = h

  pub found_put : (k : List ℕ) (v : V) (es : List (List ℕ × V)) → is_some (find k (put k v es)) ≡ true
  found_put k v [] = found_here k k v [] refl
  found_put k v (e ∷ es) = go (slice_cmp nat_cmp k e.0) refl (found_put k v es)
    where
      go : (o : Ordering) → slice_cmp nat_cmp k e.0 ≡ o → is_some (find k (put k v es)) ≡ true → is_some (find k (match_ordering o ((k, v) ∷ e ∷ es) ((e.0, v) ∷ es) (e ∷ put k v es))) ≡ true
      go Less q ih = found_here k k v (e ∷ es) refl
      go Equal q ih = found_here k e.0 v es (exact_bytes k e.0 q)
      go Greater q ih = found_more k e.0 e.1 (put k v es) ih

  pub found_kept : (k q : List ℕ) (v : V) (es : List (List ℕ × V)) → is_some (find k es) ≡ true → is_some (find k (put q v es)) ≡ true
  found_kept k q v [] h = absurd (true≢false (sym h))
  found_kept k q v (e ∷ es) h = go (slice_cmp nat_cmp q e.0) (λ x. found_kept k q v es x)
    where
      go : (o : Ordering) → (is_some (find k es) ≡ true → is_some (find k (put q v es)) ≡ true) → is_some (find k (match_ordering o ((q, v) ∷ e ∷ es) ((e.0, v) ∷ es) (e ∷ put q v es))) ≡ true
      go Less ih = found_more k q v (e ∷ es) h
      go Equal ih = found_by (bytes_eq k e.0) e.1 v (find k es) (find k es) h (λ x. x)
      go Greater ih = found_by (bytes_eq k e.0) e.1 e.1 (find k es) (find k (put q v es)) h ih

pub holds_more : (k v : List ℕ) (folders : List (List ℕ × List ℕ)) (files : Files) → HoldsFolders folders files → HoldsFolders (put k v folders) files
holds_more k v folders files h = All-weaker (λ p. is_some (find (folder_prefix p) folders) ≡ true) (λ p. is_some (find (folder_prefix p) (put k v folders)) ≡ true) (λ p. found_kept (folder_prefix p) k v folders) (keys_of files) h

-- ---- the names of module files
lacks_cons : (b : ℕ) (bs : List ℕ) → b ≢ 47 → LacksSlash bs → LacksSlash (b ∷ bs)
lacks_cons b bs n h = go
  where
    go : (i : ℕ) → i < length (b ∷ bs) → get_or (b ∷ bs) i 0 ≢ 47
    go zero l = n
    go (suc i) l = h i (omega (arith, l))

lacks_lowered : (name word : List ℕ) → map to_ascii_lowercase name ≡ word → LacksSlash word → LacksSlash name
lacks_lowered [] word e h = λ i l. absurd (omega (arith, l))
lacks_lowered (b ∷ bs) [] e h = (cc)
lacks_lowered (b ∷ bs) (c ∷ cs) e h =
    let first : to_ascii_lowercase b ≡ c = (cc) in
    let more : map to_ascii_lowercase bs ≡ cs = (cc) in
    lacks_cons b bs (λ slash. h 0 (omega arith) (sym first ∙ ap to_ascii_lowercase slash)) (lacks_lowered bs cs more (λ i l. h (suc i) (omega (arith, l))))

lacks_by : (bs : List ℕ) → list_all (λ b. not (is_slash b)) bs ≡ true → LacksSlash bs
lacks_by [] h = λ i l. absurd (omega (arith, l))
lacks_by (b ∷ bs) h =
    let p = and_parts (not (is_slash b)) (list_all (λ x. not (is_slash x)) bs) h in
    lacks_cons b bs (λ e. let f : false ≡ true = subst (λ x. not (is_slash x) ≡ true) e p.0 in false≢true f) (lacks_by bs p.1)

name_lacks : (n : List ℕ) → is_module_name n ≡ true → LacksSlash n
name_lacks n h = go (bytes_eq n (codes "mod.just")) (str_eq_ignore_ascii_case n (codes "justfile")) (str_eq_ignore_ascii_case n (codes ".justfile")) refl refl refl h
  where
    go : (a b c : Bool) → bytes_eq n (codes "mod.just") ≡ a → str_eq_ignore_ascii_case n (codes "justfile") ≡ b → str_eq_ignore_ascii_case n (codes ".justfile") ≡ c → (a || b || c) ≡ true → LacksSlash n
    go true b c e f g t = subst LacksSlash (sym ((bytes_eq-Decides n (codes "mod.just")).0 e)) (lacks_by (codes "mod.just") refl)
    go false true c e f g t = lacks_lowered n (map to_ascii_lowercase (codes "justfile")) ((bytes_eq-Decides _ _).0 f) (lacks_by (codes "justfile") refl)
    go false false true e f g t = lacks_lowered n (map to_ascii_lowercase (codes ".justfile")) ((bytes_eq-Decides _ _).0 g) (lacks_by (codes ".justfile") refl)
    go false false false e f g t = absurd (false≢true t)

-- ---- the folder of a module file
slashed_ends : (folder : List ℕ) → slashed folder ≡ (if bytes_eq folder (47 ∷ []) then [] else folder) ++ 47 ∷ []
slashed_ends folder = go (bytes_eq folder (47 ∷ [])) refl
  where
    go : (b : Bool) → bytes_eq folder (47 ∷ []) ≡ b → (if b then folder else folder ++ 47 ∷ []) ≡ (if b then [] else folder) ++ 47 ∷ []
    go true e = (bytes_eq-Decides folder (47 ∷ [])).0 e
    go false e = refl

prefix_of : (prefix front k name : List ℕ) → prefix ≡ front ++ 47 ∷ [] → k ≡ prefix ++ name → LacksSlash name → folder_prefix k ≡ prefix
prefix_of prefix front k name e q h =
    let whole : k ≡ front ++ 47 ∷ name = q ∙ ap (λ p. p ++ name) e ∙ append_assoc front (47 ∷ []) name in
    ap (λ p. p ++ 47 ∷ []) (ap (before_last is_slash) whole ∙ before_slash front name h) ∙ sym e

-- a module file of a folder has the folder's prefix
folder_held : (folder k : List ℕ) (P : Type 0) → (folder_prefix k ≡ slashed folder → P) → (is_module_file folder k ≡ true) → P
folder_held folder k P f h = go (after (slashed folder) k) refl h
  where
    go : (o : Option (List ℕ)) → after (slashed folder) k ≡ o → is_named_so o ≡ true → P
    go None e t = absurd (false≢true t)
    go (Some name) e t = f (prefix_of (slashed folder) (if bytes_eq folder (47 ∷ []) then [] else folder) k name (slashed_ends folder) (after_is (slashed folder) k name e) (name_lacks name t))

pub not_held : (folder k : List ℕ) (folders : List (List ℕ × List ℕ)) → is_some (find (folder_prefix k) folders) ≡ true → is_some (find (slashed folder) folders) ≡ false → is_module_file folder k ≡ false
not_held folder k folders h n = go (is_module_file folder k) refl
  where
    go : (b : Bool) → is_module_file folder k ≡ b → b ≡ false
    go true e = folder_held folder k (true ≡ false) (λ same. sym h ∙ ap (λ p. is_some (find p folders)) same ∙ n) e
    go false e = refl

-- where the folder is not held, no file lies in it
pub none_in : (folder : List ℕ) (folders : List (List ℕ × List ℕ)) (files : Files) → HoldsFolders folders files → is_some (find (slashed folder) folders) ≡ false → filter (is_module_file folder) (keys_of files) ≡ []
none_in folder folders [] h n = refl
none_in folder folders (f ∷ fs) h n = cond-false (is_module_file folder f.0) _ _ (not_held folder f.0 folders (All-head (λ p. is_some (find (folder_prefix p) folders) ≡ true) f.0 (keys_of fs) h) n) ∙ none_in folder folders fs (All-tail (λ p. is_some (find (folder_prefix p) folders) ≡ true) f.0 (keys_of fs) h) n

-- a text without the folder's prefix is no module file of it
pub none_without : (folder k : List ℕ) → after (slashed folder) k ≡ None → is_module_file folder k ≡ false
none_without folder k e = ap is_named_so e

pub some_with : (folder k : List ℕ) → is_module_file folder k ≡ true → is_le (slice_cmp nat_cmp (slashed folder) k) ≡ true
some_with folder k h = go (after (slashed folder) k) refl h
  where
    go : (o : Option (List ℕ)) → after (slashed folder) k ≡ o → is_named_so o ≡ true → is_le (slice_cmp nat_cmp (slashed folder) k) ≡ true
    go None e t = absurd (false≢true t)
    go (Some name) e t = not_before (slashed folder) k name e

-- ---- a walk over the entries from a folder's prefix on, at the entry of a path k
module _ (folder : List ℕ) (found all : List (List ℕ)) (k : List ℕ) (file : SourceFile) (rest tail : Files) (step : rest ≡ (k, file) ∷ tail) (kept : found ++ filter (is_module_file folder) (keys_of rest) ≡ all) where
  at_step : found ++ filter (is_module_file folder) (k ∷ keys_of tail) ≡ all
  at_step = ap (λ es. found ++ filter (is_module_file folder) (keys_of es)) (sym step) ∙ kept

  pub stops : IsSorted rest → AreFrom (slashed folder) rest → after (slashed folder) k ≡ None → found ≡ all
  stops sorted from lacks =
      let head = sorted_head (k, file) tail (subst IsSorted step sorted) in
      let none = none_selected (is_module_file folder) (slashed folder) k (none_without folder) (subst (AreFrom (slashed folder)) step from).0 lacks (keys_of tail) head in
      sym (append-nil found) ∙ ap (λ more. found ++ more) (sym none) ∙ at_step

  pub takes : (name : List ℕ) → after (slashed folder) k ≡ Some name → is_module_name name ≡ true → (found ++ k ∷ []) ++ filter (is_module_file folder) (keys_of tail) ≡ all
  takes name e t =
      append_assoc found (k ∷ []) (filter (is_module_file folder) (keys_of tail))
      ∙ ap (λ more. found ++ more) (sym (cond-true (is_module_file folder k) (k ∷ filter (is_module_file folder) (keys_of tail)) (filter (is_module_file folder) (keys_of tail)) (ap is_named_so e ∙ t)))
      ∙ at_step

  pub skips : (name : List ℕ) → after (slashed folder) k ≡ Some name → is_module_name name ≡ false → found ++ filter (is_module_file folder) (keys_of tail) ≡ all
  skips name e t =
      ap (λ more. found ++ more) (sym (cond-false (is_module_file folder k) (k ∷ filter (is_module_file folder) (keys_of tail)) (filter (is_module_file folder) (keys_of tail)) (ap is_named_so e ∙ t)))
      ∙ at_step

  pub sorted_on : IsSorted rest → IsSorted tail
  sorted_on sorted = sorted_tail (k, file) tail (subst IsSorted step sorted)

  pub from_on : AreFrom (slashed folder) rest → AreFrom (slashed folder) tail
  from_on from = (subst (AreFrom (slashed folder)) step from).1

-- ---- the folder of a path
-- the clause of `strip_suffix` at a text
abbrev pub StripsEnd : List ℕ → List ℕ → Option (Bor (List ℕ)) → Type 0
StripsEnd suffix text r = MatchOption r (FindsTextSuffix suffix text None) (λ x. (n : ℕ) × FindsTextSuffix suffix text (Some n) × (x.now ≡ take (length text - n) text) × (length x.now + n ≡ length text))

pub stripped : (path front name : List ℕ) (default : Bor (List ℕ)) (r : Option (Bor (List ℕ))) → path ≡ front ++ 47 ∷ name → LacksSlash name → StripsEnd name path r → (unwrap_or r default).now ≡ folder_prefix path
stripped path front name default None e lacks h = absurd (h (front ++ 47 ∷ []) (e ∙ sym (append_assoc front (47 ∷ []) name)))
stripped path front name default (Some x) e lacks h =
    let long : length path ≡ length (front ++ 47 ∷ name) = ap length e in
    h.2
    ∙ ap (take (length path - h.0)) (e ∙ sym (append_assoc front (47 ∷ []) name))
    ∙ take_at (front ++ 47 ∷ []) name (length path - h.0) (omega (arith, h.1.0, long, length-append front (47 ∷ name), length_push front 47))
    ∙ ap (λ p. p ++ 47 ∷ []) (sym (ap (before_last is_slash) e ∙ before_slash front name lacks))

-- ---- a file that is put in, or refused, where its folder is held
pub held_on : {X E : Type 0} (r : Result X E) (path : List ℕ) (file : SourceFile) (folders : List (List ℕ × List ℕ)) (old new : Files) → OnOk r (new ≡ put path file old) → OnErr r (new ≡ old)
    → HoldsFolders folders old → HoldsFolders (put (folder_prefix path) (folder_prefix path) folders) new
held_on (Ok x) path file folders old new ok err h =
    let held = put (folder_prefix path) (folder_prefix path) folders in
    subst (HoldsFolders held) (sym ok)
    (all_put (λ k. is_some (find (folder_prefix k) held) ≡ true) path file old (found_put (folder_prefix path) (folder_prefix path) folders) (holds_more (folder_prefix path) (folder_prefix path) folders old h))
held_on (Err e) path file folders old new ok err h =
    subst (HoldsFolders (put (folder_prefix path) (folder_prefix path) folders)) (sym err) (holds_more (folder_prefix path) (folder_prefix path) folders old h)
