-- References that are to be pinned.
use Rattle.std.specs.Prelude.{◌≡◌, ◌≢◌, ◌⊎◌, ◌++◌, List, Contains}
use Rattle.std.specs.List.{AllPairs}
use Rattle.fl_digest.specs.declared.BlobRef.{BlobRef}

-- no reference stands twice
abbrev pub IsOnce : List BlobRef → Type 0
IsOnce references = AllPairs (λ one other. one ≢ other) references

-- a reference is among those that are pinned or are to be, as all that were, and nothing else came
-- to them
pub record AddsOnce (pinned old new : List BlobRef) (reference : BlobRef) : Type 0 where
  pub there : Contains (pinned ++ new) reference
  pub kept : (r : BlobRef) → Contains (pinned ++ old) r → Contains (pinned ++ new) r
  pub only : (r : BlobRef) → Contains new r → Contains old r ⊎ (reference ≡ r)
  pub once : IsOnce (pinned ++ old) → IsOnce (pinned ++ new)

-- all that was passed is pinned or is to be, nothing else is to be, and each reference once
pub record AreFresh (pinned passed fresh : List BlobRef) : Type 0 where
  pub all : (r : BlobRef) → Contains passed r → Contains (pinned ++ fresh) r
  pub only : (r : BlobRef) → Contains fresh r → Contains passed r
  pub once : IsOnce pinned → IsOnce (pinned ++ fresh)
