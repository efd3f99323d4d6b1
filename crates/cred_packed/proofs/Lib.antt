pub mod NoGroups
