-- The parts of a text of many files, one after another.
use Rattle.std.proofs.Common.{◌≡◌, ◌≢◌, ◌⊎◌, ℕ, suc, Bool, true, false, cond, ◌+◌, ◌-◌, ◌<◌, ◌≤◌, None, Some, Result, Ok, Err, IfErr, List, [], ◌∷◌, ◌++◌, map, take, drop, length, inl, inr, refl, sym, ap, subst, ◌∙◌, arith, length-append}
use Rattle.std.proofs.lemmas.List.{append_assoc, append-nil, append_cancel_left, append_cancel_right, map-append, length-take, take-append-drop}
use Rattle.std.proofs.Math.Seq.{drop-append_seam}
use Rattle.std.specs.List.{before_first}
use Rattle.std.proofs.lemmas.List.Sums.{sum_by-append}
use Rattle.std.specs.Str.Pattern.{EndsAtFirstMatch, FindsText, FindsTextPrefix, FindsTextSuffix, HasSuffixMatch, StripsPrefix}
use Rattle.just_paths.specs.Clean.{IsClean}
use Rattle.just_table.specs.Entries.{put}
use Rattle.just_loader.specs.Sources.{Files}
use Rattle.just_bench_expressions.specs.Lines.{is_newline}
use Rattle.just_bench_bundle.specs.Bundle.{mark, file_of, line_ends, HasNoMark, AreParts, BundleHolds, HasBadPath, HoldsBundle, IsBeforeLine, IsNoBundle}
use Rattle.just_names.specs.Texts.{Text}
use Rattle.just_bench_bundle.specs.loops.Bundle.{IsNoFile}
use Rattle.just_bench_bundle.specs.declared.bundle.BundleError.{BundleError}
use Rattle.just_bench_bundle.specs.declared.bundle.BundleError.TheVariants as error

-- a part with the mark after it, or the last one
pub data Cut (s x t : Text) : Type 0 where
  followed : (q : Text) → x ≡ q ++ 10 ∷ mark → HasNoMark (q ++ 10 ∷ []) → Cut s x t
  ended : x ≡ s → t ≡ [] → s ≢ [] → HasNoMark s → Cut s x t

-- nothing ends with a mark where nothing is
pub no_end : (front back : Text) → [] ≢ front ++ 10 ∷ back
no_end [] back e = cc
no_end (b ∷ bs) back e = cc

-- a text that has no match has no mark
lacks : (s : Text) → ((i : ℕ) → i ≤ length s → (rest : Text) → drop i s ≢ (10 ∷ mark) ++ rest) → HasNoMark s
lacks s none front back e =
    let long : length s ≡ length front + length ((10 ∷ mark) ++ back) = ap length e ∙ length-append front ((10 ∷ mark) ++ back) in
    none (length front) (omega (arith, long)) back (ap (drop (length front)) e ∙ drop-append_seam front ((10 ∷ mark) ++ back))

-- what stands before the first match, and its line end, have no mark
before : (s q after : Text) → s ≡ q ++ (10 ∷ (mark ++ after)) → ((i : ℕ) → i < length q → (rest : Text) → drop i s ≢ (10 ∷ mark) ++ rest) → HasNoMark (q ++ 10 ∷ [])
before s q after is none front back e =
    let whole : s ≡ front ++ ((10 ∷ mark) ++ (back ++ (mark ++ after))) = is ∙ sym (append_assoc q (10 ∷ []) (mark ++ after)) ∙ ap (λ w. w ++ (mark ++ after)) e ∙ append_assoc front ((10 ∷ mark) ++ back) (mark ++ after) in
    let long : length q + 1 ≡ length front + length ((10 ∷ mark) ++ back) = sym (length-append q (10 ∷ [])) ∙ ap length e ∙ length-append front ((10 ∷ mark) ++ back) in
    let five : length ((10 ∷ mark) ++ back) ≡ length (10 ∷ mark) + length back = length-append (10 ∷ mark) back in
    none (length front) (omega (arith, long, five)) (back ++ (mark ++ after)) (ap (drop (length front)) whole ∙ drop-append_seam front ((10 ∷ mark) ++ (back ++ (mark ++ after))))

-- where the first match ends, a part ends
pub cut : (s x t : Text) → s ≡ x ++ t → EndsAtFirstMatch (FindsText (10 ∷ mark)) s x → Cut s x t
cut s x t is (None, none, (same, some)) =
    ended same (append_cancel_left s t [] (sym (append-nil s ∙ is ∙ ap (λ w. w ++ t) same))) (λ e. let l = ap length e in omega (arith, some, l)) (lacks s none)
cut s x t is (Some (i, j), (none, at), ends) =
    let whole : s ≡ take i s ++ ((10 ∷ mark) ++ drop j s) = sym (take-append-drop i s) ∙ ap (λ w. take i s ++ w) at.split in
    let same : take j s ≡ take i s ++ 10 ∷ mark = append_cancel_right (take j s) (take i s ++ 10 ∷ mark) (drop j s) (take-append-drop j s ∙ whole ∙ sym (append_assoc (take i s) (10 ∷ mark) (drop j s))) in
    followed (take i s) (ends (omega (arith, at.ends)) ∙ same) (before s (take i s) (drop j s) whole (λ k less. none k (omega (arith, less, length-take i s))))

-- lines that end in two texts
ends_together : (xs ys : Text) → line_ends (xs ++ ys) ≡ line_ends xs + line_ends ys
ends_together xs ys = sum_by-append (λ b. cond (is_newline b) 1 0) xs ys

-- What is read so far: the parts and what is left, which begins in this line, make the text.
pub record Taken (text rest : Text) (line : ℕ) (held : Files) : Type 0 where
  pub parts : List Text
  pub files : BundleHolds (map file_of parts) held
  pub follows : rest ≢ [] → (more : List Text) → AreParts (mark ++ rest) more → AreParts text (parts ++ more)
  pub done : rest ≡ [] → AreParts text parts
  pub stands : rest ≢ [] → (front : Text) × (text ≡ front ++ (mark ++ rest)) × IsBeforeLine front × (line ≡ line_ends front + 1)
  pub unmarked : (front : Text) → rest ≢ front ++ 10 ∷ mark

-- the line that begins after a part
ends_on : (line : ℕ) (front q x : Text) → line ≡ line_ends front + 1 → x ≡ q ++ 10 ∷ mark → line + line_ends x ≡ line_ends (front ++ (mark ++ (q ++ 10 ∷ []))) + 1
ends_on line front q x at part =
    omega (arith, at, ap line_ends part, ends_together q (10 ∷ mark), ends_together front (mark ++ (q ++ 10 ∷ [])), ends_together mark (q ++ 10 ∷ []), ends_together q (10 ∷ []))

-- before the first part
pub taken_none : (text rest : Text) → text ≡ mark ++ rest → rest ≢ [] → ((front : Text) → rest ≢ front ++ 10 ∷ mark) → Taken text rest 1 []
taken_none text rest is some unmarked = record {
  parts = [];
  files = BundleHolds.nothing;
  follows = λ _ more m. subst (λ t. AreParts t more) (sym is) m;
  done = λ e. absurd (some e);
  stands = λ _. ([], is, inl refl, refl);
  unmarked = unmarked;
}

-- after a part that another follows
pub taken_more : (text s x t q : Text) (line : ℕ) (held held' : Files) → Taken text s line held → s ≡ x ++ t → x ≡ q ++ 10 ∷ mark → HasNoMark (q ++ 10 ∷ []) → held' ≡ put (file_of (q ++ 10 ∷ [])).path (file_of (q ++ 10 ∷ [])) held → Taken text t (line + line_ends x) held'
taken_more text s x t q line held held' so_far is part clear puts =
    let whole : s ≡ q ++ 10 ∷ (mark ++ t) = is ∙ ap (λ w. w ++ t) part ∙ append_assoc q (10 ∷ mark) t in
    let some : s ≢ [] = λ e. no_end q (mark ++ t) (sym e ∙ whole) in
    let left : t ≢ [] = λ e. so_far.unmarked q (is ∙ ap (λ w. x ++ w) e ∙ append-nil x ∙ part) in
    let marked : mark ++ s ≡ mark ++ (q ++ 10 ∷ (mark ++ t)) = ap (λ w. mark ++ w) whole in
    let at = so_far.stands some in
    let here : text ≡ (at.0 ++ (mark ++ (q ++ 10 ∷ []))) ++ (mark ++ t) = at.1 ∙ ap (λ w. at.0 ++ w) (marked ∙ ap (λ w. mark ++ w) (sym (append_assoc q (10 ∷ []) (mark ++ t)))) ∙ sym (append_assoc at.0 (mark ++ (q ++ 10 ∷ [])) (mark ++ t)) in
    record {
      parts = so_far.parts ++ (q ++ 10 ∷ []) ∷ [];
      files = rw (puts, map-append file_of so_far.parts ((q ++ 10 ∷ []) ∷ [])) (BundleHolds.also (file_of (q ++ 10 ∷ [])) so_far.files);
      follows = λ _ more m. rw (append_assoc so_far.parts ((q ++ 10 ∷ []) ∷ []) more) (so_far.follows some ((q ++ 10 ∷ []) ∷ more) (subst (λ w. AreParts w ((q ++ 10 ∷ []) ∷ more)) (sym marked) (AreParts.more q (mark ++ t) more clear m)));
      done = λ e. absurd (left e);
      stands = λ _. (at.0 ++ (mark ++ (q ++ 10 ∷ [])), here, inr (at.0 ++ (mark ++ q), sym (append_assoc at.0 (mark ++ q) (10 ∷ []))), ends_on line at.0 q x at.3 part);
      unmarked = λ front e. so_far.unmarked (x ++ front) (is ∙ ap (λ w. x ++ w) e ∙ sym (append_assoc x front (10 ∷ mark)));
    }

-- after the last part
pub taken_last : (text s t : Text) (line line' : ℕ) (held held' : Files) → Taken text s line held → t ≡ [] → s ≢ [] → HasNoMark s → held' ≡ put (file_of s).path (file_of s) held → Taken text t line' held'
taken_last text s t line line' held held' so_far none some clear puts = record {
  parts = so_far.parts ++ s ∷ [];
  files = rw (puts, map-append file_of so_far.parts (s ∷ [])) (BundleHolds.also (file_of s) so_far.files);
  follows = λ left. absurd (left none);
  done = λ _. so_far.follows some (s ∷ []) (AreParts.last s clear);
  stands = λ left. absurd (left none);
  unmarked = λ front e. no_end front mark (sym none ∙ e);
}

-- one more of a list
take_one : (b : ℕ) (ws : Text) (n : ℕ) → take (1 + n) (b ∷ ws) ≡ b ∷ take n ws
take_one b ws n = let on : 1 + n ≡ suc n = omega arith in ap (λ k. take k (b ∷ ws)) on

-- a byte before two lines that are the same
path_more : (c : Bool) (b : ℕ) (ws vs : Text) → is_newline b ≡ c → before_first is_newline ws ≡ before_first is_newline vs → before_first is_newline (b ∷ ws) ≡ before_first is_newline (b ∷ vs)
path_more true b ws vs is h = rw is refl
path_more false b ws vs is h = rw (is, take_one b ws _, take_one b vs _) (ap (λ w. b ∷ w) h)

-- the path of a part is that of what is left
path_same : (q after : Text) → before_first is_newline (q ++ 10 ∷ after) ≡ before_first is_newline (q ++ 10 ∷ [])
path_same [] after = refl
path_same (b ∷ bs) after = path_more (is_newline b) b (bs ++ 10 ∷ after) (bs ++ 10 ∷ []) refl (path_same bs after)

-- a part that is no file, where its path is that of what is left
bad_here : (text s part : Text) (line : ℕ) (held : Files) → Taken text s line held → s ≢ [] → before_first is_newline s ≡ before_first is_newline part → (e : BundleError) → IsNoFile line part e → IsNoBundle text e
bad_here text s part line held so_far some same (error.NotClean at path) bad =
    let here = so_far.stands some in
    record { front = here.0; back = s; whole = here.1; begins = here.2; number = bad.0 ∙ here.3; told = bad.1 ∙ sym same; bad = bad.2 }
bad_here text s part line held so_far some same error.Memory bad = tt
bad_here text s part line held so_far some same error.NoFile bad = absurd bad

-- a part that is no file stands in the text
pub bad_part : (text s x t part : Text) (line : ℕ) (held : Files) → Taken text s line held → s ≡ x ++ t → Cut s x t → ((front : Text) → x ≡ front ++ 10 ∷ mark → part ≡ front ++ 10 ∷ []) → (((front : Text) → x ≢ front ++ 10 ∷ mark) → part ≡ x) → (e : BundleError) → IsNoFile line part e → IsNoBundle text e
bad_part text s x t part line held so_far is (followed q part_is clear) ends whole =
    let all : s ≡ q ++ 10 ∷ (mark ++ t) = is ∙ ap (λ w. w ++ t) part_is ∙ append_assoc q (10 ∷ mark) t in
    bad_here text s part line held so_far (λ e. no_end q (mark ++ t) (sym e ∙ all)) (ap (before_first is_newline) all ∙ path_same q (mark ++ t) ∙ ap (before_first is_newline) (sym (ends q part_is)))
bad_part text s x t part line held so_far is (ended same none some clear) ends whole =
    bad_here text s part line held so_far some (ap (before_first is_newline) (sym same ∙ sym (whole (λ front e. so_far.unmarked front (sym same ∙ e)))))

-- a part is put in
pub taken : (text s x t part : Text) (line : ℕ) (held held' : Files) → Taken text s line held → s ≡ x ++ t → Cut s x t → ((front : Text) → x ≡ front ++ 10 ∷ mark → part ≡ front ++ 10 ∷ []) → (((front : Text) → x ≢ front ++ 10 ∷ mark) → part ≡ x) → held' ≡ put (file_of part).path (file_of part) held → Taken text t (line + line_ends x) held'
taken text s x t part line held held' so_far is (followed q part_is clear) ends whole puts =
    taken_more text s x t q line held held' so_far is part_is clear (subst (λ w. held' ≡ put (file_of w).path (file_of w) held) (ends q part_is) puts)
taken text s x t part line held held' so_far is (ended same none some clear) ends whole puts =
    taken_last text s t line (line + line_ends x) held held' so_far none some clear (subst (λ w. held' ≡ put (file_of w).path (file_of w) held) (whole (λ front e. so_far.unmarked front (sym same ∙ e)) ∙ same) puts)

-- no path is nothing
no_path : IsClean [] → ⊥
no_path clean = let e = clean.rooted in cc

-- a mark at the end of the text has no path
pub bad_end : (text rest : Text) → text ≡ mark ++ rest → (rest ≡ []) ⊎ ((front : Text) × (rest ≡ front ++ 10 ∷ mark)) → HasBadPath text (line_ends text + 1) []
bad_end text rest is (inl none) = record {
  front = [];
  back = [];
  whole = is ∙ ap (λ w. mark ++ w) none;
  begins = inl refl;
  number = ap (λ w. line_ends w + 1) (is ∙ ap (λ w. mark ++ w) none);
  told = refl;
  bad = no_path;
}
bad_end text rest is (inr (front, ends)) =
    let whole : text ≡ (mark ++ (front ++ 10 ∷ [])) ++ mark = is ∙ ap (λ w. mark ++ w) ends ∙ ap (λ w. mark ++ w) (sym (append_assoc front (10 ∷ []) mark)) in
    record {
      front = mark ++ (front ++ 10 ∷ []);
      back = [];
      whole = whole ∙ ap (λ w. (mark ++ (front ++ 10 ∷ [])) ++ w) (sym (append-nil mark));
      begins = inr (mark ++ front, refl);
      number = omega (arith, ap line_ends whole, ends_together (mark ++ (front ++ 10 ∷ [])) mark);
      told = refl;
      bad = no_path;
    }

-- the text has the mark, and what is left
pub stripped : (text rest : Text) → StripsPrefix (FindsTextPrefix mark) text rest → text ≡ mark ++ rest
stripped text rest h = h.1.1 ∙ ap (λ w. mark ++ w) (sym h.2)

-- what ends with a mark
pub marked_end : (rest : Text) → HasSuffixMatch (FindsTextSuffix (10 ∷ mark)) rest → (front : Text) × (rest ≡ front ++ 10 ∷ mark)
marked_end rest h = (take (length rest - h.0) rest, h.1.1)

-- an answer of a part as one of the text
pub bad_result : {A : Type 0} (r : Result A BundleError) (line : ℕ) (part text : Text) → IfErr r (IsNoFile line part) → ((e : BundleError) → IsNoFile line part e → IsNoBundle text e) → IfErr r (IsNoBundle text)
bad_result (Ok a) line part text h all = tt
bad_result (Err e) line part text h all = all e h

-- an empty text has no files
pub holds_none : (text : Text) (held : Files) → text ≡ [] → held ≡ [] → HoldsBundle text held
holds_none text held empty nothing = record {
  parts = [];
  whole = subst (λ t. AreParts t []) (sym empty) AreParts.none;
  files = subst (BundleHolds []) (sym nothing) BundleHolds.nothing;
}
